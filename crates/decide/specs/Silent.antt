-- What is printed where a stream fails.
use Rattle.std.specs.Prelude.{ℕ, List, Option, ⊤}
use Rattle.std.specs.Io.KnownBytes.{Keeps}
use Rattle.decide.specs.declared.failure.Failure.{Failure}
use Rattle.decide.specs.declared.failure.Failure.TheVariants.{Input, Output}

-- nothing, where it is the input
abbrev pub Silent : Option (List ℕ) → Option (List ℕ) → Failure → Type 0
Silent old new (Input e) = Keeps old new
Silent old new (Output e) = ⊤
