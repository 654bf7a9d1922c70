-- Jobs that differ in the bounds of some tables: what it is for tables that no expression uses to play no part.
use Rattle.std.specs.Prelude.{◌≡◌, Bool, ◌||◌, List, [], ◌∷◌, ℕ, zero, length, T}
use Rattle.model.specs.Tables.{Table, Expression, Job, uses, after}

-- tables with as many columns each, and with the same bounds in those that u names
abbrev pub SameTables : (ℕ → Bool) → List Table → List Table → Type 0
SameTables u [] [] = Unit {0}
SameTables u [] (c ∷ cs) = ⊥
SameTables u (b ∷ bs) [] = ⊥
SameTables u (b ∷ bs) (c ∷ cs) = (length c ≡ length b) × (T (u zero) → c ≡ b) × SameTables (after u) bs cs

abbrev pub job_of : List Table → Expression → Expression → Job
job_of ts e q = record { tables = ts; extract = e; query = q }

-- one of two expressions uses the table
abbrev pub used_by_either : Expression → Expression → ℕ → Bool
used_by_either e q t = uses e t || uses q t
