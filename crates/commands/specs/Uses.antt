-- What the functions on commands answer and what they may rely on: entries added to a record, and the checks of a command's operands.
use Rattle.std.specs.Prelude.{◌≡◌, Bool, true, cond, [], ℕ, ◌+◌, ◌-◌, ◌<◌, ◌≤◌, length, get_or, set, T, eqb, Some, Result}
use Rattle.std.specs.Prelude.{Ok, Err}
use Rattle.words.specs.Compare.{op_at}
use Rattle.job.specs.declared.Column.{Column}
use Rattle.job.specs.declared.Comparison.{Comparison}
use Rattle.job.specs.declared.Clause.{Clause}
use Rattle.job.specs.declared.Condition.{Condition}
use Rattle.job.specs.declared.Expression.{Expression}
use Rattle.job.specs.declared.Columns.{Columns}
use Rattle.job.specs.declared.Job.{Job}
use Rattle.job.specs.Meaning.{column_record, comparison_record}
use Rattle.layout.specs.declared.Command.{Command}
use Rattle.layout.specs.declared.Fault.{Fault}
use Rattle.layout.specs.Commands.{command_of, operands, Entry, add_table, add_column, mark, use_table, add_output, add_clause}
use Rattle.layout.specs.Commands.{add_comparison, entry_at}
use Rattle.layout.specs.declared.Refusal.{Refusal}
use Rattle.layout.specs.Faults.{fault_of, refusal_of}
use Rattle.layout.specs.Reading.{State, Step, next, stop, current, follows, has_room, in_ranges, op_known, declared, is_new, taken}
use Rattle.commands.specs.declared.Addition.{Addition}
use Rattle.commands.specs.declared.Addition.TheVariants.{Table as TableAdded, Column as ColumnAdded, Part as PartAdded, Nothing}
use Rattle.commands.specs.declared.Part.{Part}
use Rattle.commands.specs.declared.Part.TheVariants.{Used, Output, Clause as ClauseAdded, Compared}
use Rattle.commands.specs.Reached.{Reached}

-- ---- The record's parts

abbrev pub current_in : Bool → Job → Expression
current_in q r = cond q r.query r.extract

-- the last clause, where there is one
abbrev pub last_clause : Condition → Clause
last_clause k = get_or k.clauses (k.size - 1) (record { size = 0; comparisons = [] })

-- with an expression in place of the current one
abbrev pub placed : Bool → Job → Expression → Job
placed q r e = record {
  declared = r.declared;
  extract = cond q r.extract e;
  query = cond q e r.query;
}

-- ---- One entry more

-- with other columns declared
abbrev pub declaring : Job → Columns → Job
declaring r k = record { declared = k; extract = r.extract; query = r.query }

abbrev pub table_more : Job → Job
table_more r = let k = r.declared in declaring r (record { tables = k.tables + 1; width = k.width; columns = k.columns })

abbrev pub column_more : Job → Column → Job
column_more r c = let k = r.declared in declaring r (record { tables = k.tables; width = k.width + 1; columns = set k.columns k.width c })

abbrev pub used_more : Expression → ℕ → Expression
used_more e t = record {
  tables = e.tables + 1;
  used = set e.used e.tables t;
  width = e.width;
  outputs = e.outputs;
  condition = e.condition;
}

abbrev pub output_more : Expression → ℕ → Expression
output_more e c = record {
  tables = e.tables;
  used = e.used;
  width = e.width + 1;
  outputs = set e.outputs e.width c;
  condition = e.condition;
}

abbrev pub clause_more : Condition → Condition
clause_more k = record { size = k.size + 1; clauses = k.clauses }

abbrev pub with_comparison : Clause → Comparison → Clause
with_comparison c k = record { size = c.size + 1; comparisons = set c.comparisons c.size k }

-- in the last clause
abbrev pub comparison_more : Condition → Comparison → Condition
comparison_more k c = record { size = k.size; clauses = set k.clauses (k.size - 1) (with_comparison (last_clause k) c) }

abbrev pub conditioned : Expression → Condition → Expression
conditioned e k = record { tables = e.tables; used = e.used; width = e.width; outputs = e.outputs; condition = k }

-- an expression with what a command adds
abbrev pub part_more : Expression → Part → Expression
part_more e (Used t) = used_more e t
part_more e (Output c) = output_more e c
part_more e ClauseAdded = conditioned e (clause_more e.condition)
part_more e (Compared k) = conditioned e (comparison_more e.condition k)

-- the record with what a command adds
abbrev pub grown : Bool → Job → Addition → Job
grown q r TableAdded = table_more r
grown q r (ColumnAdded k) = column_more r k
grown q r (PartAdded x) = placed q r (part_more (current_in q r) x)
grown q r Nothing = r

-- there is room for it
abbrev pub PartFits : Expression → Part → Type 0
PartFits e (Used t) = e.tables < 4
PartFits e (Output c) = e.width < 16
PartFits e ClauseAdded = e.condition.size < 4
PartFits e (Compared k) = (0 < e.condition.size) × (e.condition.size ≤ 4) × ((last_clause e.condition).size < 6)

abbrev pub Fits : Bool → Job → Addition → Type 0
Fits q r TableAdded = r.declared.tables < 4
Fits q r (ColumnAdded k) = r.declared.width < 16
Fits q r (PartAdded x) = PartFits (current_in q r) x
Fits q r Nothing = T true

-- ---- The checks 7 to 10

-- refusal n, unless the check is passed
abbrev pub judge : {A : Type 0} → ℕ → Bool → Result A Fault → Result A Fault
judge n passed rest = cond passed rest (Err (fault_of n))

-- what an entry adds
abbrev pub addition_of : State → Entry → Addition
addition_of st add_table = TableAdded
addition_of st (add_column lo hi) = ColumnAdded (column_record (length st.job.tables - 1) (record { lo = lo; hi = hi }))
addition_of st (mark b) = Nothing
addition_of st (use_table t) = PartAdded (Used t)
addition_of st (add_output c) = PartAdded (Output c)
addition_of st add_clause = PartAdded ClauseAdded
addition_of st (add_comparison o l r) = PartAdded (Compared (comparison_record (record { op = op_at o; left = l; right = r })))

-- what is said of an entry: what it adds, or the fault of the first check that it doesn't pass
abbrev pub judged_of : State → Entry → Result Addition Fault
judged_of st x =
    judge 7 (in_ranges x)
    (judge 8 (op_known x)
    (judge 9 (declared st.job.tables (current st) x)
    (judge 10 (is_new (current st) x)
    (Ok (addition_of st x)))))

-- ---- A command

-- a command that stands where one is due, in order, with room and with its operands
pub record Ready (p : Reached) (c : Command) : Type 0 where
  pub listed : command_of (get_or p.bytes p.at 0) ≡ Some c
  pub in_order : follows p.state c ≡ true
  pub room : has_room p.state c ≡ true
  pub whole : p.at + 1 + operands c ≤ length p.bytes

-- what the definition says of it
abbrev pub taken_at : Reached → Command → Step
taken_at p c = taken p.bytes p.at p.state (get_or p.bytes p.at 0) c

-- what is said of its entry
abbrev pub judged_at : Reached → Command → Result Addition Fault
judged_at p c = judged_of p.state (entry_at c p.bytes p.at)

-- whether the job ends with a command, or its fault as a refusal at a position
abbrev pub refused_at : ℕ → Result Bool Fault → Result Bool Refusal
refused_at at (Ok q) = Ok q
refused_at at (Err f) = Err (record { fault = f; at = at })

-- what a command comes to: whether the job ends with it, and what has been read then, or a refusal, and what had been read
abbrev pub stepped_of : Reached → Step → Result Bool Refusal × Reached
stepped_of p (next at st) = (Ok (eqb st.last 0xFF), record { bytes = p.bytes; at = at; state = st })
stepped_of p (stop n at) = (Err (refusal_of n at), p)
