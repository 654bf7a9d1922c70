-- Reading a job: each command goes through the checks 2 to 10 before the next one does (document 01, "What is refused").
use Rattle.std.specs.Prelude.{Bool, true, false, not, cond, ◌&&◌, ◌||◌, List, [], ◌∷◌, ◌++◌, ℕ, zero, suc, ◌+◌, length, get_or, take, eqb}
use Rattle.std.specs.Prelude.{ltb, leb, Option, None, Some}
use Rattle.std.specs.Int.Signed.{le_z}
use Rattle.base.specs.Lists.{any_of, pairwise, in_last, last_of}
use Rattle.model.specs.Tables.{Table, Condition, Expression, Job, columns_of}
use Rattle.words.specs.Compare.{op_at}
use Rattle.model.specs.WellFormed.{in_scope, against_in_scope, in_range, against_limited}
use Rattle.layout.specs.declared.Command.{Command}
use Rattle.layout.specs.declared.Command.TheVariants.{NextTable, NextColumn, ExtractBegins, QueryBegins, TableUsed, OutputColumn}
use Rattle.layout.specs.declared.Command.TheVariants.{NextClause, NumberCompared, ColumnCompared, End}
use Rattle.layout.specs.Commands.{start_bytes, command_of, operands, before, Entry, add_table, add_column, mark, use_table, add_output}
use Rattle.layout.specs.Commands.{add_clause, add_comparison, entry_at}

-- ---- What has been read so far

pub record State : Type 0 where
  pub last : ℕ  -- the byte of the last command; 0 at the start
  pub in_query : Bool  -- whether the query has begun
  pub job : Job

abbrev pub no_expression : Expression
no_expression = record { used = []; outputs = []; condition = [] }

abbrev pub no_job : Job
no_job = record { tables = []; extract = no_expression; query = no_expression }

abbrev pub at_start : State
at_start = record { last = 0; in_query = false; job = no_job }

-- the expression that commands are for
abbrev pub current : State → Expression
current st = cond st.in_query st.job.query st.job.extract

-- ---- The checks

-- 4: the order
abbrev pub follows : State → Command → Bool
follows st c = any_of (eqb st.last) (before st.in_query c)

-- 5: the limits
abbrev pub has_room : State → Command → Bool
has_room st NextTable = ltb (length st.job.tables) 4
has_room st NextColumn = ltb (length (columns_of st.job.tables)) 16
has_room st ExtractBegins = true
has_room st QueryBegins = true
has_room st TableUsed = true
has_room st OutputColumn = true
has_room st NextClause = ltb (length (current st).condition) 4
has_room st NumberCompared = ltb (length (last_of (current st).condition)) 6
has_room st ColumnCompared = ltb (length (last_of (current st).condition)) 6
has_room st End = true

-- 6: the operands are there
abbrev pub has_operands : List ℕ → ℕ → Command → Bool
has_operands s at c = leb (at + 1 + operands c) (length s)

-- 7: the ranges
abbrev pub in_ranges : Entry → Bool
in_ranges add_table = true
in_ranges (add_column lo hi) = in_range lo && in_range hi && le_z lo hi
in_ranges (mark b) = true
in_ranges (use_table t) = true
in_ranges (add_output c) = true
in_ranges add_clause = true
in_ranges (add_comparison o l r) = against_limited r

-- 8: the ops
abbrev pub op_known : Entry → Bool
op_known add_table = true
op_known (add_column lo hi) = true
op_known (mark b) = true
op_known (use_table t) = true
op_known (add_output c) = true
op_known add_clause = true
op_known (add_comparison o l r) = leb o 4

-- 9: what is named is declared, and its table used
abbrev pub declared : List Table → Expression → Entry → Bool
declared ts e add_table = true
declared ts e (add_column lo hi) = true
declared ts e (mark b) = true
declared ts e (use_table t) = ltb t (length ts)
declared ts e (add_output c) = in_scope ts e c
declared ts e add_clause = true
declared ts e (add_comparison o l r) = in_scope ts e l && against_in_scope ts e r

-- above the last of some numbers
abbrev pub above_last : List ℕ → ℕ → Bool
above_last [] t = true
above_last (u ∷ []) t = ltb u t
above_last (u ∷ v ∷ us) t = above_last (v ∷ us) t

-- 10: used tables ascend, outputs don't repeat
abbrev pub is_new : Expression → Entry → Bool
is_new e add_table = true
is_new e (add_column lo hi) = true
is_new e (mark b) = true
is_new e (use_table t) = above_last e.used t
is_new e (add_output c) = not (any_of (eqb c) e.outputs)
is_new e add_clause = true
is_new e (add_comparison o l r) = true

-- ---- What an entry adds

abbrev pub with_used : Expression → ℕ → Expression
with_used e t = record { used = e.used ++ t ∷ []; outputs = e.outputs; condition = e.condition }

abbrev pub with_output : Expression → ℕ → Expression
with_output e c = record { used = e.used; outputs = e.outputs ++ c ∷ []; condition = e.condition }

abbrev pub with_condition : Expression → Condition → Expression
with_condition e k = record { used = e.used; outputs = e.outputs; condition = k }

abbrev pub with_tables : Job → List Table → Job
with_tables j ts = record { tables = ts; extract = j.extract; query = j.query }

abbrev pub with_current : Bool → Job → Expression → Job
with_current true j e = record { tables = j.tables; extract = j.extract; query = e }
with_current false j e = record { tables = j.tables; extract = e; query = j.query }

-- to a job whose current expression is e
abbrev pub added : Bool → Job → Expression → Entry → Job
added q j e add_table = with_tables j (j.tables ++ [] ∷ [])
added q j e (add_column lo hi) = with_tables j (in_last j.tables (record { lo = lo; hi = hi }))
added q j e (mark b) = j
added q j e (use_table t) = with_current q j (with_used e t)
added q j e (add_output c) = with_current q j (with_output e c)
added q j e add_clause = with_current q j (with_condition e (e.condition ++ [] ∷ []))
added q j e (add_comparison o l r) =
    with_current q j (with_condition e (in_last e.condition (record { op = op_at o; left = l; right = r })))

-- after a command's byte b and its entry
abbrev pub after : ℕ → Entry → State → State
after b e st = record { last = b; in_query = st.in_query || eqb b 0x21; job = added st.in_query st.job (current st) e }

-- ---- Commands, one by one

-- after a command: where the next is due and what has been read, or a refusal with its number and position
pub data Step : Type 0 where
  next : ℕ → State → Step
  stop : ℕ → ℕ → Step

-- refusal n at the command's offset, unless the check is passed
abbrev pub check : ℕ → ℕ → Bool → Step → Step
check n at passed rest = cond passed rest (stop n at)

-- a command of byte b, through 4 to 10
unfoldable pub taken : List ℕ → ℕ → State → ℕ → Command → Step
taken s at st b c =
    check 4 at (follows st c)
    (check 5 at (has_room st c)
    (check 6 at (has_operands s at c)
    (check 7 at (in_ranges (entry_at c s at))
    (check 8 at (op_known (entry_at c s at))
    (check 9 at (declared st.job.tables (current st) (entry_at c s at))
    (check 10 at (is_new (current st) (entry_at c s at))
    (next (at + 1 + operands c) (after b (entry_at c s at) st))))))))

-- 3: the byte is a command's
abbrev pub if_listed : ℕ → Option Command → (Command → Step) → Step
if_listed at None f = stop 3 at
if_listed at (Some c) f = f c

-- 2: there is a byte
unfoldable pub step_of : List ℕ → ℕ → State → Step
step_of s at st = cond (ltb at (length s)) (if_listed at (command_of (get_or s at 0)) (taken s at st (get_or s at 0))) (stop 2 (length s))

-- ---- The whole job

-- what reading gives: a job, or a refusal with its number and position
pub data Reading : Type 0 where
  accepted : Job → Reading
  refused : ℕ → ℕ → Reading

-- 11: nothing follows the end
abbrev pub ended : List ℕ → ℕ → State → Reading
ended s at st = cond (eqb at (length s)) (accepted st.job) (refused 11 at)

abbrev pub onward : List ℕ → Step → (ℕ → State → Reading) → Reading
onward s (stop n at) rest = refused n at
onward s (next at st) rest = cond (eqb st.last 0xFF) (ended s at st) (rest at st)

-- the commands from a place on, n of them at most; a command has a byte or more, so that none is due after as many as there are bytes
abbrev pub read_from : ℕ → List ℕ → ℕ → State → Reading
read_from zero s at st = refused 2 (length s)
read_from (suc n) s at st = onward s (step_of s at st) (read_from n s)

-- 1: the start
abbrev pub starts : List ℕ → Bool
starts s = pairwise eqb start_bytes (take 4 s)

unfoldable pub read_of : List ℕ → Reading
read_of s = cond (starts s) (read_from (length s) s 4 at_start) (refused 1 0)
