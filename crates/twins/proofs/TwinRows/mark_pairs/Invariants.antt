-- `twins::TwinRows::mark_pairs` meets its contract. Assumes nothing.
use mathlib.Core.Path.{◌≡◌}
use lib.ListN.{length, drop}
use Rattle.base.specs.Options.{is_some}
use Rattle.job.specs.Meaning.{condition_of}
use Rattle.conditions.specs.Meeting.{pairs_of}
use Rattle.twins.specs.Marks.{marked}
use Rattle.twins.proofs.Pairing.{column_differs, pair_differs, marked_by}
use Rattle.twins.proofs.TwinRows.mark_pairs.Given as goal

abbrev pub invariant-loop-e : goal.invariant-loop-e
invariant-loop-e g l = (length l.marks ≡ length l.fn.marks)
    × (marked_by l.first (drop l.e-index (condition_of l.fn.l)) (length l.fn.marks) (column_differs l.self.twin) l.marks
    ≡ marked_by l.first (condition_of l.fn.l) (length l.fn.marks) (column_differs l.self.twin) l.initial.marks)

abbrev pub invariant-loop-c : goal.invariant-loop-c
invariant-loop-c g l = (length l.marks ≡ length l.fn.marks)
    × (marked_by l.z (drop l.c-index (condition_of l.fn.k)) (length l.fn.marks) (pair_differs l.fn.l l.self.twin) l.marks
    ≡ marked (length l.fn.marks) (λ c. is_some (pairs_of l.z (condition_of l.fn.k) (condition_of l.fn.l) (column_differs l.self.twin c))) l.fn.marks)
