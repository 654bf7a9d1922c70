-- What deciding gives for columns, an extract and a query that reading gives (document 01, "The verdict").
use Rattle.std.specs.Prelude.{◌≡◌, List, map, ℕ}
use Rattle.base.specs.Lists.{tabulate}
use Rattle.base.specs.Arrays.{padded}
use Rattle.model.specs.Verdict.{kind_of, listing_of, HandedOut}
use Rattle.model.specs.Answers.{number_of_kind, number_of_held}
use Rattle.job.specs.declared.Columns.{Columns}
use Rattle.job.specs.declared.Expression.{Expression}
use Rattle.job.specs.Meaning.{job_of}
use Rattle.databases.specs.declared.Database.{Database}
use Rattle.verdict.specs.declared.Verdict.{Verdict}
use Rattle.databases.specs.Databases.{no_database, database_of, TidyDatabase}

-- one number for each declared column, zeros behind
unfoldable pub listing_record : Columns → Expression → Expression → List ℕ
listing_record k extract query = padded 16 0 (tabulate k.width (listing_of (job_of k extract query)))

-- The two databases. With kind 0 they have no row, and are zero throughout. Which they are with kinds 1 to 4 no definition says, only this: they are
-- evidence, and only what is present has other values than zero.
pub record HandsOut (k : Columns) (extract query : Expression) (d f : Database) : Type 0 where
  pub with_0 : kind_of (job_of k extract query) ≡ 0 → (d ≡ no_database) × (f ≡ no_database)
  pub handed : HandedOut (job_of k extract query) (database_of (job_of k extract query) d) (database_of (job_of k extract query) f)
  pub first_tidy : TidyDatabase k d
  pub second_tidy : TidyDatabase k f

-- what is promised of a verdict
pub record IsVerdict (k : Columns) (extract query : Expression) (v : Verdict) : Type 0 where
  pub kind : number_of_kind v.kind ≡ kind_of (job_of k extract query)
  pub listing : map number_of_held v.listing ≡ listing_record k extract query
  pub databases : HandsOut k extract query v.databases.first v.databases.second
