-- The search for rows that meet two conditions and not a third: what it asks, and what it finds by the ways that were laid. Assumes nothing.
use mathlib.Core.Path.{◌≡◌}
use mathlib.Core.Bool.{Bool}
use mathlib.Core.List.{[]}
use Prim.Native.Nat.{ℕ, zero, suc, ◌+◌, ◌<◌, ◌≤◌}
use native.Mathlib.Omega.{arith}
use lib.ListN.{length, get_or}
use Rattle.model.specs.Tables as model
use Rattle.job.specs.declared.Condition.{Condition}
use Rattle.job.specs.Meaning.{condition_of}
use Rattle.zone.specs.Zone.{Zone, columns_of}
use Rattle.conditions.specs.Meeting.{always_record}
use Rattle.conditions.specs.Uses.{ConditionFits}
use Rattle.conditions.specs.Meeting.{Ends}
use Rattle.breaking.specs.declared.Choices.{Choices}
use Rattle.breaking.specs.Breaking.{choices_of}
use Rattle.breaking.specs.Places.{choices_in}
use Rattle.breaking.proofs.Sizes.{small_from}
use Rattle.breaking.proofs.Fitting.{choices_fit}
use Rattle.search.specs.Search.{outside}
use Rattle.search.specs.Uses.{SearchesOutside}
use Rattle.verdict.specs.Found.{without}
use Rattle.verdict.specs.Uses.{FindsOne}

-- the condition that every row meets fits any columns
pub always_fits : (n : ℕ) → ConditionFits n always_record
always_fits n = record { small = record { clauses = omega arith; comparisons = each }; fit = tt }
  where
    each : (q : ℕ) → q < 4 → (get_or always_record.clauses q (record { size = 0; comparisons = [] })).size ≤ 6
    each zero h = omega arith
    each (suc zero) h = omega arith
    each (suc (suc zero)) h = omega arith
    each (suc (suc (suc zero))) h = omega arith
    each (suc (suc (suc (suc q)))) h = absurd (omega arith)

-- c are the choices that were laid for the condition k
module _ (z : Zone) {k : Condition} (fits : ConditionFits (columns_of z) k) (c : Choices) (laid : choices_in c ≡ choices_of (condition_of k))
    (size : c.clauses ≡ length (condition_of k)) where
  pub outside_asks : {a b : Condition} → FindsOne z a b → SearchesOutside z a b c
  outside_asks finds =
      let few = (small_from k fits.small).0 in
      let nodes : columns_of z + 1 ≡ length z = omega (arith, finds.some_node) in
      record {
        searches = finds.searches;
        weighs = record {
          choices = rw nodes at (choices_fit (columns_of z) (condition_of k) few fits.fit c laid);
          few = omega (arith, size, few);
        };
      }

  -- what is found
  pub searched : (a b : model.Condition) {r : Bool} {e : Zone} → Ends (outside z a b c.clauses (choices_in c)) r e
      → Ends (without z a b (condition_of k)) r e
  searched a b ends = rw (laid, size) at ends
