-- A number's digits are those of decimal: what they are worth, that none is a zero too many, and how many there are. Assumes nothing.
use mathlib.Core.Path.{◌≡◌, refl, ap, ◌∙◌}
use mathlib.Core.Logic.{◌⊎◌, inl, inr}
use mathlib.Core.Bool.{Bool, true, false}
use mathlib.Core.List.Memᴰ
use mathlib.Core.List.{List, [], ◌∷◌, ◌++◌}
use Prim.Native.Nat.{ℕ, zero, suc, ◌+◌, ◌-◌, ◌*◌, ◌/◌, ◌%◌, ◌^◌, ◌≤◌, ◌<◌}
use native.Mathlib.Nat.{div-lt_iff_lt-mul, pow-suc}
use native.Mathlib.Omega.{arith}
use lib.ListN.{length, length-append}
use lib.Dec.{ltb}
use borrow.Author.Tests.{ltb-true, ltb-false}
use Rattle.base.specs.Lists.{◌∈◌}
use Rattle.report.specs.Text.{written, digits}

-- ---- by the last digit
written_none : (k : ℕ) → written k 0 ≡ []
written_none zero = refl
written_none (suc k) = refl

written_same : (k j n : ℕ) → n ≤ k → n ≤ j → written k n ≡ written j n
written_same zero zero n h g = refl
written_same zero (suc j) zero h g = refl
written_same zero (suc j) (suc m) h g = absurd (omega arith)
written_same (suc k) zero zero h g = refl
written_same (suc k) zero (suc m) h g = absurd (omega arith)
written_same (suc k) (suc j) zero h g = refl
written_same (suc k) (suc j) (suc m) h g = rw (written_same k j (suc m / 10) (omega arith) (omega arith))

pub digits_one : (n : ℕ) → n < 10 → digits n ≡ (48 + n) ∷ []
unfolding digits
digits_one zero h = refl
digits_one (suc m) h =
    let front : suc m / 10 ≡ 0 = omega arith in
    let last : suc m % 10 ≡ suc m = omega arith in
    rw (front, last, written_none m)

written_digits : (k n : ℕ) → 0 < n → n ≤ k → written k n ≡ digits n
unfolding digits
written_digits k zero h g = absurd (omega arith)
written_digits k (suc m) h g = written_same k (suc m) (suc m) g (omega arith)

pub digits_more : (n : ℕ) → 10 ≤ n → digits n ≡ digits (n / 10) ++ ((48 + n % 10) ∷ [])
unfolding digits
digits_more zero h = absurd (omega arith)
digits_more (suc m) h = ap (λ l. l ++ ((48 + suc m % 10) ∷ [])) (written_digits m (suc m / 10) (omega arith) (omega arith))

-- what holds of one digit, and goes on with each digit more, holds
by_digits : (P : ℕ → Type 0) → ((n : ℕ) → n < 10 → P n)
    → ((n : ℕ) → 10 ≤ n → P (n / 10) → P n) → (n : ℕ) → P n
by_digits P one more n = up_to n n (omega arith)
  where
    up_to : (k n : ℕ) → n ≤ k → P n
    up_to zero n h = one n (omega arith)
    up_to (suc k) n h = go (ltb n 10) refl (λ g. up_to k (n / 10) (omega arith))
      where
        go : (b : Bool) → ltb n 10 ≡ b → (10 ≤ n → P (n / 10)) → P n
        go true e rest = one n (ltb-true n 10 e)
        go false e rest = more n (ltb-false n 10 e) (rest (ltb-false n 10 e))

-- ---- what they are worth
-- the number that digits stand for, behind v
abbrev pub worth : ℕ → List ℕ → ℕ
worth v [] = v
worth v (d ∷ ds) = worth (10 * v + (d - 48)) ds

worth_append : (v : ℕ) (xs ys : List ℕ) → worth v (xs ++ ys) ≡ worth (worth v xs) ys
worth_append v [] ys = refl
worth_append v (x ∷ xs) ys = worth_append (10 * v + (x - 48)) xs ys

pub digits_value : (n : ℕ) → worth 0 (digits n) ≡ n
digits_value = by_digits (λ n. worth 0 (digits n) ≡ n) one more
  where
    one : (n : ℕ) → n < 10 → worth 0 (digits n) ≡ n
    one n h = rw (digits_one n h) (omega arith)

    more : (n : ℕ) → 10 ≤ n → worth 0 (digits (n / 10)) ≡ n / 10 → worth 0 (digits n) ≡ n
    more n h e = rw (digits_more n h, worth_append 0 (digits (n / 10)) ((48 + n % 10) ∷ []), e) (omega arith)

-- ---- which they are
-- `0` to `9`
abbrev pub Digit : ℕ → Type 0
Digit d = (48 ≤ d) × (d ≤ 57)

pub each_a_digit : (n d : ℕ) → d ∈ digits n → Digit d
each_a_digit = by_digits (λ n. (d : ℕ) → d ∈ digits n → Digit d) one more
  where
    alone : (x d : ℕ) → x < 10 → d ∈ ((48 + x) ∷ []) → Digit d
    alone x d h m = go (Memᴰ.cases_cons m)
      where
        go : (d ≡ 48 + x) ⊎ (d ∈ []) → Digit d
        go (inl e) = (omega arith, omega arith)
        go (inr k) = absurd (Memᴰ.not-nil k)

    one : (n : ℕ) → n < 10 → (d : ℕ) → d ∈ digits n → Digit d
    one n h d m = alone n d h (rw (digits_one n h) at m)

    more : (n : ℕ) → 10 ≤ n → ((d : ℕ) → d ∈ digits (n / 10) → Digit d) → (d : ℕ) → d ∈ digits n → Digit d
    more n h front d m = go (Memᴰ.append_cases (digits (n / 10)) (rw (digits_more n h) at m))
      where
        go : (d ∈ digits (n / 10)) ⊎ (d ∈ ((48 + n % 10) ∷ [])) → Digit d
        go (inl k) = front d k
        go (inr k) = alone (n % 10) d (omega arith) k

-- there is a first digit, and it is no `0`
abbrev pub NoZeroFirst : List ℕ → Type 0
NoZeroFirst l = (d : ℕ) × (ds : List ℕ) × (l ≡ d ∷ ds) × (48 < d)

pub no_zero_first : (n : ℕ) → 0 < n → NoZeroFirst (digits n)
no_zero_first = by_digits (λ n. 0 < n → NoZeroFirst (digits n)) one more
  where
    one : (n : ℕ) → n < 10 → 0 < n → NoZeroFirst (digits n)
    one n h s = (48 + n, [], digits_one n h, omega arith)

    more : (n : ℕ) → 10 ≤ n → (0 < n / 10 → NoZeroFirst (digits (n / 10))) → 0 < n → NoZeroFirst (digits n)
    more n h front s =
        let f = front (omega arith) in
        (f.0, f.1 ++ ((48 + n % 10) ∷ []), digits_more n h ∙ rw f.2, f.3)

-- ---- how many they are
pub digits_few : (k n : ℕ) → n < 10 ^ suc k → length (digits n) ≤ suc k
digits_few zero n h = rw (digits_one n h) (omega arith)
digits_few (suc k) n h = go (ltb n 10) refl (digits_few k (n / 10))
  where
    go : (b : Bool) → ltb n 10 ≡ b → (n / 10 < 10 ^ suc k → length (digits (n / 10)) ≤ suc k)
        → length (digits n) ≤ suc (suc k)
    go true e front = rw (digits_one n (ltb-true n 10 e)) (omega arith)
    go false e front =
        let fewer = front ((div-lt_iff_lt-mul (omega arith)).1 (rw (pow-suc 10 (suc k)) at h)) in
        rw (digits_more n (ltb-false n 10 e), length-append (digits (n / 10)) ((48 + n % 10) ∷ [])) (omega (arith, fewer))
