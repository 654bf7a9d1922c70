-- What the searches find, one row first and then two as one, is the kind of the job and its finding. Assumes nothing.
use mathlib.Core.Path.{◌≡◌, refl, sym, ◌∙◌}
use mathlib.Core.Bool.{Bool, true, false, cond, ◌&&◌, false≢true}
use mathlib.Core.Option.{Option, none}
use Prim.Native.Nat.{ℕ}
use lib.ListN.{take}
use lib.Dec.{eqb, eqb→eq}
use denote.Enum.Bare.{sameb}
use borrow.Author.Tests.{eq-eqb}
use Rattle.base.proofs.Tests.{is_T}
use Rattle.base.specs.Lists.{at}
use Rattle.base.specs.Options.{is_some, or_else}
use Rattle.model.specs.Tables as model
use Rattle.model.specs.Verdict.{tables_differ, first_kind}
use Rattle.model.specs.declared.Kind.{Kind}
use Rattle.model.specs.declared.Kind.TheVariants.{Computable, TablesDiffer, RowNotKept, ConditionHidden, OutputHidden}
use Rattle.model.specs.Answers.{number_of_kind}
use Rattle.model.specs.contracts.Kind.{the_type}
use Rattle.job.specs.declared.Columns.{Columns}
use Rattle.job.specs.declared.Condition.{Condition}
use Rattle.job.specs.declared.Expression.{Expression}
use Rattle.job.specs.Meaning.{condition_of, job_of, problem}
use Rattle.job.proofs.Records.{Sized}
use Rattle.zone.specs.Zone.{Zone}
use Rattle.conditions.specs.Meeting.{Lies}
use Rattle.twins.specs.declared.TwinRows.{TwinRows}
use Rattle.twins.specs.Pairs.{some_apart}
use Rattle.twins.specs.Records.{renamed_condition}
use Rattle.verdict.specs.Found.{box, box2, found1, found2, found3, found4, found_kind, finding, one_kind, one_found, two_kind, two_found}
use Rattle.verdict.specs.Uses.{Decides}
use Rattle.verdict.proofs.Finding.{finds_first, finds_second}
use Rattle.verdict.proofs.Ready.{finds_met, finds_one, finds_two}

-- ---- whether a kind is Computable, by its number
no_kind : (k : Kind) {b : Bool} → b ≡ sameb the_type k Computable → b ≡ eqb (number_of_kind k) 0
no_kind Computable e = e
no_kind TablesDiffer e = e
no_kind RowNotKept e = e
no_kind ConditionHidden e = e
no_kind OutputHidden e = e

module _ (k : Kind) {b : Bool} (told : b ≡ sameb the_type k Computable) where
  pub none_found : b ≡ true → number_of_kind k ≡ 0
  none_found h = eqb→eq (number_of_kind k) 0 (is_T (sym (no_kind k told) ∙ h))

  pub some_found : b ≡ false → ¬ (number_of_kind k ≡ 0)
  some_found h z = false≢true (sym h ∙ no_kind k told ∙ eq-eqb (number_of_kind k) 0 z)

module _ {k : Columns} {extract query : Expression} {rows : TwinRows} (u : Decides k extract query rows) (size : Sized (problem k extract query)) where
  abbrev j : model.Job
  j = job_of k extract query

  -- what is told of a kind and a zone: they are the job's, and what was found
  abbrev pub Told : ℕ → Zone → Type 0
  Told r e = (r ≡ found_kind (job_of k extract query)) × Lies (finding (job_of k extract query)) e

  -- z is the box of a row, and differ tells whether the tables differ
  module _ (z : Zone) (is : z ≡ box (job_of k extract query)) {differ : Bool} (tables : differ ≡ tables_differ (job_of k extract query)) where
    abbrev kind : ℕ
    kind = one_kind z differ (condition_of extract.condition) (condition_of query.condition)

    abbrev found : Option Zone
    found = one_found z differ (condition_of extract.condition) (condition_of query.condition)

    one_is : (kind ≡ first_kind (tables_differ j && is_some (found1 j)) (is_some (found2 j)) false false)
        × (found ≡ or_else (cond (tables_differ j) (found1 j) none) (found2 j))
    unfolding one_kind one_found
    one_is = rw (tables, finds_met u size z is, finds_one u size z is) (refl, refl)

    pub told_first : {r : ℕ} (e : Zone) → r ≡ one_kind z differ (condition_of extract.condition) (condition_of query.condition) → ¬ (r ≡ 0)
        → Lies (one_found z differ (condition_of extract.condition) (condition_of query.condition)) e → Told r e
    unfolding found_kind finding
    told_first {r} e r-is some-kind lies =
        let (kinds, finds) = finds_first (found2 j) (found3 j) (found4 j) (tables_differ j) (found1 j) (λ e. some-kind (r-is ∙ one_is.0 ∙ e)) in
        (r-is ∙ one_is.0 ∙ kinds, λ y h. lies y (one_is.1 ∙ finds ∙ h))

    -- no row was found; z2 is the box of two rows as one
    module _ {r₁ : ℕ} (r₁-is : r₁ ≡ one_kind z differ (condition_of extract.condition) (condition_of query.condition)) (no_kind : r₁ ≡ 0)
        {keeps : Condition} (kept : keeps ≡ renamed_condition rows.twin extract.condition)
        {wants : Condition} (wanted : wants ≡ renamed_condition rows.twin query.condition)
        (z2 : Zone) (is2 : z2 ≡ box2 (job_of k extract query)) where
      abbrev apart : Zone → Option Zone
      apart = some_apart (at rows.twin) (take query.width query.outputs)

      two_is : (two_kind z2 (condition_of keeps) (condition_of query.condition) (condition_of wants) apart
          ≡ first_kind false false (is_some (found3 j)) (is_some (found4 j)))
          × (two_found z2 (condition_of keeps) (condition_of query.condition) (condition_of wants) apart ≡ or_else (found3 j) (found4 j))
      unfolding two_kind two_found
      two_is = let (a, b) = finds_two u size kept wanted z2 is2 in rw (a, b) (refl, refl)

      pub told_second : {r : ℕ} (e : Zone)
          → r ≡ two_kind z2 (condition_of keeps) (condition_of query.condition) (condition_of wants)
          (some_apart (at rows.twin) (take query.width query.outputs))
          → Lies (two_found z2 (condition_of keeps) (condition_of query.condition) (condition_of wants)
          (some_apart (at rows.twin) (take query.width query.outputs))) e
          → Told r e
      unfolding found_kind finding
      told_second {r} e r-is lies =
          let (kinds, finds) = finds_second (found2 j) (found3 j) (found4 j) (tables_differ j) (found1 j) (sym (r₁-is ∙ one_is.0) ∙ no_kind) in
          (r-is ∙ two_is.0 ∙ kinds, λ y h. lies y (two_is.1 ∙ finds ∙ h))
