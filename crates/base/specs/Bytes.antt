-- Bytes, and bytes that are put one behind the other.
use Rattle.std.specs.Prelude.{◌≡◌, List, ℕ, ◌+◌, ◌<◌, ◌≤◌, length, get_or}
use Rattle.std.proofs.lemmas.List.Edits.{sets}
use Rattle.base.specs.declared.Output.{Output}

-- each element is a byte
abbrev pub Bytes : List ℕ → Type 0
Bytes s = (i : ℕ) → get_or s i 0 < 256

-- behind what has been put there is room for some bytes
pub record Room (out : Output) (bytes : List ℕ) : Type 0 where
  pub room : out.at + length bytes ≤ length out.bytes.now

-- in the same lent bytes, these stand behind what had been put, the next place is the one after them, and all else is as it was
pub record Puts (old new : Output) (bytes : List ℕ) : Type 0 where
  pub same : new.bytes.ghost_name ≡ old.bytes.ghost_name
  pub next : new.at ≡ old.at + length bytes
  pub within : new.at ≤ length new.bytes.now
  pub list : new.bytes.now ≡ sets old.bytes.now old.at bytes
