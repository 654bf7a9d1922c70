-- What is read or written in several calls, and what the front of an input tells. Assumes nothing.
use Rattle.std.proofs.Common.{◌≡◌, ◌∙◌, ℕ, List, [], ◌++◌, ◌+◌, ◌-◌, ◌≤◌, ◌<◌, ◌⊎◌, inl, inr, Option, Some, None, IfSome, Result, Ok, Err, OnOk, true≢false}
use Rattle.std.proofs.Common.{sym, ap, subst, arith, length, take, drop, take_all, append-nil, length-append, length-drop, length-take-le}
use Rattle.std.proofs.Math.Nat.{eq-or-lt_of_le}
use Rattle.std.proofs.Math.Seq.{take-add, take-append_seam, take-append-add}
use Rattle.std.proofs.lemmas.List.{take-append-le}
use Rattle.std.specs.Result.{is_ok}
use Rattle.std.specs.Io.KnownBytes.{Appends, Consumes, IsAtEnd}
use Rattle.std.proofs.KnownBytes.{Appends-trans, Consumes-trans}
use Rattle.report.specs.Printed.{printed}
use Rattle.report.proofs.Printed.{printed_enough}

-- one read more: its bytes stand behind those that were there
pub read_more : (a b c : Option (List ℕ)) (at n : ℕ) (old new rest : List ℕ) → at ≤ length old → n ≤ length new
    → Consumes a b (take at old) → Consumes b c (take n new) → Consumes a c (take (at + n) (take at old ++ (new ++ rest)))
read_more a b c at n old new rest h k first second =
    let front : length (take at old) ≡ at = length-take-le at old h in
    let joined : take (at + n) (take at old ++ (new ++ rest)) ≡ take at old ++ take n new =
    ap (λ m. take (m + n) (take at old ++ (new ++ rest))) (sym front) ∙ take-append-add (take at old) (new ++ rest) n
    ∙ ap (λ l. take at old ++ l) (take-append-le n new rest k) in
    subst (Consumes a c) (sym joined) (Consumes-trans a b c _ _ first second)

-- the part of a list from a place on
rest_of : (at : ℕ) (s : List ℕ) → take (length s - at) (drop at s) ≡ drop at s
rest_of at s = take_all (length s - at) (drop at s) (omega (arith, length-drop at s))

-- one write more
pub write_more : (a b c : Option (List ℕ)) (at n : ℕ) (s : List ℕ)
    → Appends a b (take at s) → Appends b c (take n (take (length s - at) (drop at s))) → Appends a c (take (at + n) s)
write_more a b c at n s first second = subst (Appends a c) (sym (take-add at n s)) (Appends-trans a b c _ _ first (rw (rest_of at s) at second))

-- an input that begins with 600 bytes is printed as these are
long_input : (s x y : List ℕ) → length s ≡ 600 → x ≡ s ++ y → printed s ≡ printed x
long_input s x y full e =
    let front : take 600 x ≡ s = ap (take 600) e ∙ ap (λ n. take n (s ++ y)) (sym full) ∙ take-append_seam s y in
    let long : 600 ≤ length x = omega (arith, full, ap length e ∙ length-append s y) in
    ap printed (sym front) ∙ printed_enough x long

-- the first n bytes of an input tell what is printed, where n is 600 or nothing comes behind them
front_tells : (n : ℕ) (s x y : List ℕ) → length s ≡ 600 → x ≡ take n s ++ y → (n < 600 → y ≡ []) → (n ≡ 600) ⊎ (n < 600)
    → printed (take n s) ≡ printed x
front_tells n s x y full e end (inl whole) =
    let all : take n s ≡ s = take_all n s (omega (arith, full, whole)) in
    ap printed all ∙ long_input s x y full (e ∙ ap (λ l. l ++ y) all)
front_tells n s x y full e end (inr less) =
    ap printed (sym (append-nil (take n s)) ∙ ap (λ l. take n s ++ l) (sym (end less)) ∙ sym e)

-- so what is printed of the bytes that were read is printed of all that the input has
pub prints : (a b o p : Option (List ℕ)) (n : ℕ) (s : List ℕ) → length s ≡ 600 → n ≤ 600
    → Consumes a b (take n s) → (n < 600 → IsAtEnd b) → Appends o p (printed (take n s)) → IfSome a (λ xs. Appends o p (printed xs))
prints None b o p n s full most taken end put = tt
prints (Some x) None o p n s full most taken end put = absurd taken
prints (Some x) (Some y) o p n s full most taken end put =
    subst (Appends o p) (front_tells n s x y full taken end (eq-or-lt_of_le most)) put

-- what follows where an answer is Ok, said of the answer with another error
pub on_ok : {A E F P Q : Type 0} (r : Result A E) (q : Result A F) → is_ok q ≡ is_ok r → OnOk r P → (P → Q) → OnOk q Q
on_ok (Ok x) (Ok y) v p f = f p
on_ok (Err e) (Ok y) v p f = absurd (true≢false v)
on_ok (Ok x) (Err e) v p f = tt
on_ok (Err d) (Err e) v p f = tt
