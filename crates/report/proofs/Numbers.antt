-- The numbers that are printed of a refusal and a verdict. Assumes nothing.
use mathlib.Core.List.{List, [], ◌∷◌, map}
use mathlib.Core.Path.{◌≡◌, refl}
use Prim.Native.Nat.{◌<◌}
use native.Mathlib.Omega.{arith}
use Rattle.base.specs.Lists.{flat_map}
use Rattle.report.specs.Text.{field}
use Rattle.model.specs.Answers.{number_of_held}
use Rattle.model.specs.declared.Held.{Held}
use Rattle.layout.specs.Faults.{number_of_fault}
use Rattle.layout.specs.declared.Fault.{Fault}

pub fault_byte : (f : Fault) → number_of_fault f < 256
fault_byte f = grind arith

-- the listing's numbers, one by one
pub columns_text : (l : List Held) → flat_map l (λ h. field " " (number_of_held h)) ≡ flat_map (map number_of_held l) (field " ")
columns_text [] = refl
columns_text (h ∷ l) = rw (columns_text l)
