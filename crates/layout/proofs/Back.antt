-- Writing what has been read gives the bytes that have been passed. Assumes nothing.
use mathlib.Core.Path.{◌≡◌, refl, sym, ap, ◌∙◌}
use mathlib.Core.List.{List, [], ◌∷◌, ◌++◌, append-nil, append_assoc}
use Prim.Native.Nat.{ℕ, suc, ◌+◌, ◌<◌, ◌≤◌}
use native.Mathlib.Numerals.{add-one}
use native.Mathlib.Omega.{arith}
use lib.ListN.{length, get_or, take, drop, length-take, length-drop}
use lib.Seq.{take-length, take-suc, drop-cons, drop-drop, take-add}
use lib.Dec.{T, eqb, eqb→eq}
use Rattle.layout.specs.Sound.{Sound}
use Rattle.base.specs.Lists.{flat_map}
use Rattle.base.specs.Bytes.{Bytes}
use Rattle.base.proofs.Lists.{pairwise_is, flat_map_append}
use Rattle.base.proofs.Bytes.{bytes_take, bytes_drop}
use Rattle.words.specs.Word.{encoded, value_at}
use Rattle.words.proofs.Words.{encode_decode}
use Rattle.model.specs.Tables.{Job}
use Rattle.layout.specs.declared.Command.{Command}
use Rattle.layout.specs.declared.Command.TheVariants.{NextTable, NextColumn, ExtractBegins, QueryBegins, TableUsed, OutputColumn, NextClause, NumberCompared}
use Rattle.layout.specs.declared.Command.TheVariants.{ColumnCompared, End}
use Rattle.layout.specs.Commands.{number_of_command, start_bytes, operands, entry_at}
use Rattle.layout.specs.Reading.{State, at_start, next, step_of, accepted, starts, read_of}
use Rattle.layout.specs.Writing.{entry_bytes, job_bytes}
use Rattle.layout.proofs.Given.{Given, step_given}
use Rattle.layout.proofs.Keeps.{start_sound, step_sound}
use Rattle.layout.proofs.Ends.{read_ended}
use Rattle.layout.proofs.Entries.{so_far, step_more, end_so_far}

-- ---- the bytes at a place
module _ (s : List ℕ) where
  -- one byte and those from the next place on
  one_more : (n i j : ℕ) → i < length s → i + 1 ≡ j → take (suc n) (drop i s) ≡ get_or s i 0 ∷ take n (drop j s)
  one_more n i j h e = rw (← e, add-one, drop-cons s i 0 h)

  -- a value and those from the place behind it
  value_more : (w n i j : ℕ) → Bytes s → i + w ≤ length s → i + w ≡ j
      → take (w + n) (drop i s) ≡ encoded w (value_at w s i) ++ take n (drop j s)
  value_more w n i j b h e =
      rw (
        ← e,
        encode_decode w (take w (drop i s)) (simp (length-take, length-drop) (omega arith)) (bytes_take w (drop i s) (bytes_drop i s b)),
        take-add w n (drop i s),
        drop-drop w i s,
      )

  value_last : (i : ℕ) → Bytes s → i + 4 ≤ length s → take 4 (drop i s) ≡ encoded 4 (value_at 4 s i)
  value_last i b h = value_more 4 0 i (i + 4) b h refl ∙ append-nil _

  -- a command's bytes
  entry_bytes_lem : (c : Command) (at : ℕ) → Bytes s → at + 1 + operands c ≤ length s
      → number_of_command c ∷ take (operands c) (drop (at + 1) s) ≡ entry_bytes (entry_at c s at)
  entry_bytes_lem NextTable at b h = refl
  entry_bytes_lem NextColumn at b h =
      ap (◌∷◌ 0x11) (value_more 4 4 (at + 1) (at + 5) b (omega arith) (omega arith)
      ∙ ap (◌++◌ (encoded 4 (value_at 4 s (at + 1)))) (value_last (at + 5) b (omega arith)))
  entry_bytes_lem ExtractBegins at b h = refl
  entry_bytes_lem QueryBegins at b h = refl
  entry_bytes_lem TableUsed at b h = rw (one_more 0 (at + 1) (at + 2) (omega arith) (omega arith))
  entry_bytes_lem OutputColumn at b h = rw (one_more 0 (at + 1) (at + 2) (omega arith) (omega arith))
  entry_bytes_lem NextClause at b h = refl
  entry_bytes_lem NumberCompared at b h =
      rw (
        one_more 5 (at + 1) (at + 2) (omega arith) (omega arith),
        one_more 4 (at + 2) (at + 3) (omega arith) (omega arith),
      )
      (ap (λ (v : List ℕ). 0x41 ∷ get_or s (at + 1) 0 ∷ get_or s (at + 2) 0 ∷ v) (value_last (at + 3) b (omega arith)))
  entry_bytes_lem ColumnCompared at b h =
      rw (
        one_more 2 (at + 1) (at + 2) (omega arith) (omega arith),
        one_more 1 (at + 2) (at + 3) (omega arith) (omega arith),
        one_more 0 (at + 3) (at + 4) (omega arith) (omega arith),
      )
  entry_bytes_lem End at b h = refl

  -- the bytes up to a place are those of what has been read
  abbrev Matches : ℕ → State → Type 0
  Matches at st = Sound st × (take at s ≡ start_bytes ++ flat_map (so_far st) entry_bytes)

  start_matches : T (starts s) → Matches 4 at_start
  unfolding so_far
  start_matches t = (start_sound, sym (pairwise_is eqb eqb→eq start_bytes (take 4 s) t))

  -- the bytes up to the end of a command
  passed_bytes : (c : Command) (at at' : ℕ) (st st' : State) → Bytes s → Given s at st at' st' c
      → take at' s ≡ take at s ++ entry_bytes (entry_at c s at)
  passed_bytes c at at' st st' b g =
      rw (
        ← g.place,
        take-add (at + 1) (operands c) s,
        ← entry_bytes_lem c at b g.whole,
        ← g.byte,
        add-one,
        take-suc s at 0 g.inside,
      )
      (append_assoc (take at s) (get_or s at 0 ∷ []) _)

  step_matches : Bytes s → (at at' : ℕ) (st st' : State) → Matches at st → step_of s at st ≡ next at' st' → Matches at' st'
  step_matches b at at' st st' (h, m) e =
      let (c, g) = step_given s at at' st st' e in (
        step_sound s at at' st st' h e,
        rw (passed_bytes c at at' st st' b g, m, step_more s at at' st st' c h g, flat_map_append) (simp (append-nil, append_assoc)),
      )

  pub written_back : (j : Job) → Bytes s → read_of s ≡ accepted j → job_bytes j ≡ s
  unfolding job_bytes
  written_back j b r =
      let d = read_ended Matches s j (step_matches b) start_matches r in
      let (h, m) = d.kept in
      rw (← d.same, ← end_so_far d.final h d.closing) (sym (sym (take-length s) ∙ m))
