-- The listing of columns: how each is found, and that with marks on the columns that aren't fixed it is the job's. Assumes nothing.
use mathlib.Core.Path.{◌≡◌, refl, sym, ap, ◌∙◌}
use mathlib.Core.Bool.{Bool, true, false, not, cond}
use mathlib.Core.List.{List, ◌++◌, map, map-append}
use Prim.Native.Nat.{ℕ, ◌-◌, ◌<◌, ◌≤◌}
use lib.ListN.{get_or, take, drop, replicate, length-map}
use lib.Dec.{eqb}
use borrow.Author.Tests.{not-true, not-false}
use Rattle.base.proofs.Arrays.{Pass, front_end, front_size, drop_replicate}
use Rattle.base.proofs.Lists.{map_replicate}
use Rattle.base.proofs.Places.{tabulate_cong, tabulate_length}
use Rattle.base.specs.Lists.{any_of, tabulate}
use Rattle.base.specs.Arrays.{padded}
use Rattle.model.specs.Tables as model
use Rattle.model.specs.Tables.{uses, table_of}
use Rattle.model.specs.Verdict.{fixed, listing_of}
use Rattle.model.specs.declared.Held.{Held}
use Rattle.model.specs.declared.Held.TheVariants.{NotUsed}
use Rattle.model.specs.Answers.{number_of_held}
use Rattle.job.specs.declared.Columns.{Columns}
use Rattle.job.specs.declared.Expression.{Expression}
use Rattle.job.specs.Record.{no_column}
use Rattle.job.specs.Meaning.{expression_of, job_of, problem, record_of}
use Rattle.job.proofs.Declared.{table_is}
use Rattle.databases.specs.Databases.{table_at}
use Rattle.databases.specs.Listing.{listed_at, listed_by}

-- ---- one column, test by test
module _ (k : Columns) (extract : Expression) (marks : List Bool) (c : ℕ)
    {used : Bool} (u : used ≡ uses (expression_of extract) (table_at k.columns c)) where
  pub listed_out : not used ≡ true → 0 ≡ listed_at k extract marks c
  unfolding listed_at
  listed_out h = let out = sym u ∙ not-true used h in rw out

  module _ (there : not used ≡ false) {stored : Bool} (s : stored ≡ any_of (eqb c) (take extract.width extract.outputs)) where
    pub listed_stored : stored ≡ true → 1 ≡ listed_at k extract marks c
    unfolding listed_at
    listed_stored h = let on = sym u ∙ not-false used there in let is = sym s ∙ h in rw (on, is)

    pub listed_other : stored ≡ false → {b : Bool} → get_or marks c false ≡ b → cond b 3 2 ≡ listed_at k extract marks c
    unfolding listed_at
    listed_other h m = let on = sym u ∙ not-false used there in let is = sym s ∙ h in rw (on, is, m)

-- ---- the columns one after the other, in the front of an array in which none is used
module _ (k : Columns) (extract : Expression) (marks : List Bool) (few : k.width ≤ 16) where
  pub listed_all : {c : ℕ} (hs : List Held)
      → Pass (listed_at k extract marks) 0 k.width c (map number_of_held (take k.width (replicate 16 NotUsed))) (map number_of_held hs)
      → k.width ≤ c → map number_of_held (hs ++ drop k.width (replicate 16 NotUsed)) ≡ listed_by k extract marks
  unfolding listed_by
  listed_all hs s past =
      let f = listed_at k extract marks in
      let front = front_end s past (length-map (take k.width (replicate 16 NotUsed)) number_of_held ∙ front_size {A = Held} NotUsed few) in
      map-append number_of_held hs (drop k.width (replicate 16 NotUsed))
      ∙ rw (front, drop_replicate k.width 16 NotUsed, map_replicate number_of_held (16 - k.width) NotUsed, tabulate_length k.width f)

-- ---- all columns, of columns and expressions that are those of the record of the job that they stand for
other_way : (b : Bool) → ◌≡◌ {A = ℕ} (cond (not b) 3 2) (cond b 2 3)
other_way true = refl
other_way false = refl

module _ (k : Columns) (extract query : Expression) (laid : record_of (job_of k extract query) ≡ problem k extract query) (marks : List Bool)
    (marked : (c : ℕ) → c < k.width → get_or marks c false ≡ not (fixed (job_of k extract query) c)) where
  abbrev j : model.Job
  j = job_of k extract query

  listed_is : (c : ℕ) → c < k.width → listed_at k extract marks c ≡ listing_of j c
  unfolding listed_at listing_of job_of expression_of
  listed_is c h =
      let out : ℕ → Bool = λ t. not (uses (expression_of extract) t) in
      let is : Bool = any_of (eqb c) (take extract.width extract.outputs) in
      ap (λ (t : ℕ). cond (out t) 0 (cond is 1 (cond (get_or marks c false) 3 2))) (table_is (problem k extract query) laid c no_column h)
      ∙ ap (λ (n : ℕ). cond (out (table_of j.tables c)) 0 (cond is 1 n))
      (ap (λ (b : Bool). cond b 3 2) (marked c h) ∙ other_way (fixed j c))

  pub listing_is : listed_by k extract marks ≡ padded 16 0 (tabulate k.width (listing_of j))
  unfolding listed_by
  listing_is = ap (padded 16 0) (tabulate_cong k.width (listed_at k extract marks) (listing_of j) listed_is)
