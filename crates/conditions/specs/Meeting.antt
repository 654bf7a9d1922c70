-- The rows of a zone that meet a condition, or two, clause by clause.
use Rattle.std.specs.Prelude.{◌≡◌, Bool, [], ◌∷◌, replicate}
use Rattle.std.proofs.Math.Option.{Option, some}
use Rattle.base.specs.Options.{is_some, and_then, first_of}
use Rattle.model.specs.Tables as model
use Rattle.job.specs.declared.Condition.{Condition}
use Rattle.job.specs.Record.{no_clause}
use Rattle.zone.specs.Zone.{Zone}
use Rattle.solver.specs.Solver.{imposed_all}

-- what f gives for the rows of the zone that meet a clause of the condition, by the first clause for which it gives something
abbrev pub by_clause : Zone → model.Condition → (Zone → Option Zone) → Option Zone
by_clause z k f = first_of k (λ c. and_then (imposed_all z c) f)

-- rows of the zone that meet the condition, by the first clause that leaves some
unfoldable pub met : Zone → model.Condition → Option Zone
met z k = first_of k (imposed_all z)

-- what f gives for the rows that meet both conditions, by the first pair of clauses for which it gives something; the first's changes slowest
unfoldable pub pairs_of : Zone → model.Condition → model.Condition → (Zone → Option Zone) → Option Zone
pairs_of z k l f = by_clause z k (λ y. by_clause y l f)

-- the condition that every row meets, by a clause that asks nothing; and its record
abbrev pub always : model.Condition
always = [] ∷ []

abbrev pub always_record : Condition
always_record = record { size = 1; clauses = replicate 4 no_clause }

-- what was found is the zone d; with none, nothing is said of d
abbrev pub Lies : Option Zone → Zone → Type 0
Lies o d = (y : Zone) → o ≡ some y → d ≡ y

-- a search for o ends so: it answers whether there is something, and what is there is the zone that it leaves
abbrev pub Ends : Option Zone → Bool → Zone → Type 0
Ends o r d = (r ≡ is_some o) × Lies o d
