-- Samples that the checker computes: the bytes of some lines, and the longest. Assumes nothing.
use mathlib.Core.Path.{◌≡◌, refl}
use mathlib.Core.List.{[], ◌∷◌}
use lib.ListN.{length, replicate}
use Rattle.report.specs.Text.{ascii, digits, refusal_text, verdict_text}

-- `refused 12 at 0`
refusal_12 : refusal_text 12 0 ≡ 114 ∷ 101 ∷ 102 ∷ 117 ∷ 115 ∷ 101 ∷ 100 ∷ 32 ∷ 49 ∷ 50 ∷ 32 ∷ 97 ∷ 116 ∷ 32 ∷ 48 ∷ 10 ∷ []
unfolding refusal_text digits
refusal_12 = refl

-- document 01's example: `kind 3` and `columns 1 3`
example : verdict_text 3 (1 ∷ 3 ∷ [])
    ≡ 107 ∷ 105 ∷ 110 ∷ 100 ∷ 32 ∷ 51 ∷ 10 ∷ 99 ∷ 111 ∷ 108 ∷ 117 ∷ 109 ∷ 110 ∷ 115 ∷ 32 ∷ 49 ∷ 32 ∷ 51 ∷ 10 ∷ []
unfolding verdict_text digits
example = refl

largest : digits 18446744073709551615 ≡ ascii "18446744073709551615"
unfolding digits
largest = refl

-- the longest text that numbers of a byte give: the room that `report::text` is lent
longest : length (verdict_text 255 (replicate 16 255)) ≡ 81
unfolding verdict_text digits
longest = refl
