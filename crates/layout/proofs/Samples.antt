-- Samples that the checker computes from the definitions: document 01's example, and for each refusal jobs that show its number, its
-- position and its place in the order. The theorems see none of these. Assumes nothing.
use mathlib.Core.Path.{◌≡◌, refl}
use mathlib.Core.List.{List, [], ◌∷◌, ◌++◌, map}
use Prim.Native.Nat.{ℕ, zero, suc}
use lib.IntN.{pos, negsuc}
use Rattle.words.specs.declared.Op.{Op}
use Rattle.words.specs.declared.Op.TheVariants.{Less, AtMost, Equal, AtLeast, More}
use Rattle.model.specs.Tables.{Against, column, number, Comparison, Job, uses}
use Rattle.model.specs.declared.Bounds.{Bounds}
use Rattle.layout.specs.Commands.{start_bytes, command_of}
use Rattle.layout.specs.Reading.{Reading, accepted, refused, read_of, step_of, taken}
use Rattle.layout.specs.Writing.{job_bytes, entries_of, expression_entries}

-- ---- document 01's example

example : List ℕ
example =
    0x50 ∷ 0x53 ∷ 0x4A ∷ 0x31 ∷ 0x10 ∷ 0x11 ∷ 0 ∷ 0 ∷ 0 ∷ 0 ∷ 9 ∷ 0 ∷ 0 ∷ 0 ∷ 0x11 ∷ 0 ∷ 0 ∷ 0 ∷ 0 ∷ 9 ∷ 0 ∷ 0 ∷ 0
    ∷ 0x20 ∷ 0x30 ∷ 0 ∷ 0x31 ∷ 0 ∷ 0x40 ∷ 0x21 ∷ 0x30 ∷ 0 ∷ 0x31 ∷ 0 ∷ 0x40 ∷ 0x41 ∷ 4 ∷ 1 ∷ 5 ∷ 0 ∷ 0 ∷ 0 ∷ 0xFF ∷ []

digit : Bounds
digit = record { lo = pos 0; hi = pos 9 }

example_job : Job
example_job = record {
  tables = (digit ∷ digit ∷ []) ∷ [];
  extract = record { used = 0 ∷ []; outputs = 0 ∷ []; condition = [] ∷ [] };
  query = record { used = 0 ∷ []; outputs = 0 ∷ []; condition = (record { op = More; left = 1; right = number (pos 5) } ∷ []) ∷ [] };
}

example_read : read_of example ≡ accepted example_job
unfolding example example_job digit read_of step_of taken command_of uses
example_read = refl

example_written : job_bytes example_job ≡ example
unfolding example example_job digit job_bytes entries_of expression_entries
example_written = refl

-- ---- a job with every command in most of its orders

several : List ℕ
several =
    0x50 ∷ 0x53 ∷ 0x4A ∷ 0x31
    ∷ 0x10 ∷ 0x11 ∷ 0xFB ∷ 0xFF ∷ 0xFF ∷ 0xFF ∷ 9 ∷ 0 ∷ 0 ∷ 0 ∷ 0x11 ∷ 0 ∷ 0 ∷ 0 ∷ 0 ∷ 9 ∷ 0 ∷ 0 ∷ 0
    ∷ 0x10 ∷ 0x11 ∷ 0 ∷ 0 ∷ 0 ∷ 0 ∷ 9 ∷ 0 ∷ 0 ∷ 0
    ∷ 0x20 ∷ 0x30 ∷ 0 ∷ 0x30 ∷ 1 ∷ 0x31 ∷ 2 ∷ 0x31 ∷ 0
    ∷ 0x40 ∷ 0x40 ∷ 0x41 ∷ 1 ∷ 0 ∷ 0xFF ∷ 0xFF ∷ 0xFF ∷ 0xFF ∷ 0x42 ∷ 3 ∷ 0 ∷ 2 ∷ 0x42 ∷ 2 ∷ 1 ∷ 1
    ∷ 0x41 ∷ 0 ∷ 2 ∷ 7 ∷ 0 ∷ 0 ∷ 0 ∷ 0x41 ∷ 4 ∷ 1 ∷ 0xF6 ∷ 0xFF ∷ 0xFF ∷ 0xFF ∷ 0x40 ∷ 0x42 ∷ 0 ∷ 0 ∷ 1 ∷ 0x40
    ∷ 0x21 ∷ 0x30 ∷ 1 ∷ 0x31 ∷ 2 ∷ 0x40 ∷ 0x41 ∷ 2 ∷ 2 ∷ 3 ∷ 0 ∷ 0 ∷ 0 ∷ 0xFF ∷ []

against : Op → ℕ → Against → Comparison
against o l r = record { op = o; left = l; right = r }

several_job : Job
several_job = record {
  tables = (record { lo = negsuc 4; hi = pos 9 } ∷ digit ∷ []) ∷ (digit ∷ []) ∷ [];
  extract = record {
    used = 0 ∷ 1 ∷ [];
    outputs = 2 ∷ 0 ∷ [];
    condition =
        []
        ∷ (against AtMost 0 (number (negsuc 0)) ∷ against AtLeast 0 (column 2) ∷ against Equal 1 (column 1)
        ∷ against Less 2 (number (pos 7)) ∷ against More 1 (number (negsuc 9)) ∷ [])
        ∷ (against Less 0 (column 1) ∷ [])
        ∷ []
        ∷ [];
  };
  query = record { used = 1 ∷ []; outputs = 2 ∷ []; condition = (against Equal 2 (number (pos 3)) ∷ []) ∷ [] };
}

several_read : read_of several ≡ accepted several_job
unfolding several several_job against digit read_of step_of taken command_of uses
several_read = refl

several_written : job_bytes several_job ≡ several
unfolding several several_job against digit job_bytes entries_of expression_entries
several_written = refl

-- ---- refusals

abbrev times : ℕ → List ℕ → List ℕ
times zero l = []
times (suc n) l = l ++ times n l

-- a column from 0 to hi; tables of one and of two columns; an expression over some tables
abbrev column_to : ℕ → List ℕ
column_to hi = 0x11 ∷ 0 ∷ 0 ∷ 0 ∷ 0 ∷ hi ∷ 0 ∷ 0 ∷ 0 ∷ []

abbrev one : List ℕ
one = 0x10 ∷ column_to 9

abbrev two : List ℕ
two = one ++ column_to 9

-- from 1 to 0; from 0 to 1,000,001
abbrev turned : List ℕ
turned = 0x11 ∷ 1 ∷ 0 ∷ 0 ∷ 0 ∷ 0 ∷ 0 ∷ 0 ∷ 0 ∷ []

abbrev far : List ℕ
far = 0x11 ∷ 0 ∷ 0 ∷ 0 ∷ 0 ∷ 0x41 ∷ 0x42 ∷ 0x0F ∷ 0 ∷ []

abbrev plain : List ℕ
plain = 0x30 ∷ 0 ∷ 0x31 ∷ 0 ∷ []

record Sample : Type 0 where
  bytes : List ℕ
  says : Reading

abbrev job : List ℕ → ℕ → ℕ → Sample
job s n at = record { bytes = start_bytes ++ s; says = refused n at }

refusals : List Sample
refusals =
    record { bytes = []; says = refused 1 0 }
    ∷ record { bytes = 0x50 ∷ 0x53 ∷ 0x4A ∷ []; says = refused 1 0 }
    ∷ record { bytes = 0x50 ∷ 0x53 ∷ 0x4A ∷ 0x32 ∷ 0x10 ∷ []; says = refused 1 0 }
    ∷ job [] 2 4
    ∷ job two 2 23
    ∷ job (0x12 ∷ []) 3 4
    ∷ job (0x20 ∷ []) 4 4
    ∷ job (0x10 ∷ 0x10 ∷ []) 4 5
    -- a fifth table, in order and out of order; a seventeenth column whose operands lack
    ∷ job (times 4 one ++ 0x10 ∷ []) 5 44
    ∷ job (times 3 one ++ 0x10 ∷ 0x10 ∷ []) 4 35
    ∷ job (0x10 ∷ times 16 (column_to 9) ++ 0x11 ∷ []) 5 149
    -- a fifth clause; a seventh comparison, of both sorts together
    ∷ job (one ++ 0x20 ∷ plain ++ 0x40 ∷ 0x40 ∷ 0x40 ∷ 0x40 ∷ 0x40 ∷ []) 5 23
    ∷ job (one ++ 0x20 ∷ plain ++ 0x40 ∷ times 6 (0x42 ∷ 0 ∷ 0 ∷ 0 ∷ []) ++ 0x41 ∷ []) 5 44
    ∷ job (one ++ 0x20 ∷ plain ++ 0x40 ∷ times 6 (0x42 ∷ 0 ∷ 0 ∷ 0 ∷ []) ++ 0x42 ∷ []) 5 44
    -- operands that lack are noticed before those that are there are judged
    ∷ job (0x10 ∷ 0x11 ∷ 1 ∷ 0 ∷ 0 ∷ 0 ∷ 0 ∷ 0 ∷ 0 ∷ []) 6 5
    ∷ job (one ++ 0x20 ∷ plain ++ 0x40 ∷ 0x42 ∷ 5 ∷ 9 ∷ []) 6 20
    ∷ job (0x10 ∷ turned) 7 5
    ∷ job (0x10 ∷ column_to 9 ++ far) 7 14
    -- the number before the op, the op before the column
    ∷ job (one ++ 0x20 ∷ plain ++ 0x40 ∷ 0x41 ∷ 5 ∷ 9 ∷ 0x41 ∷ 0x42 ∷ 0x0F ∷ 0 ∷ []) 7 20
    ∷ job (one ++ 0x20 ∷ plain ++ 0x40 ∷ 0x41 ∷ 5 ∷ 9 ∷ 0 ∷ 0 ∷ 0 ∷ 0 ∷ []) 8 20
    ∷ job (one ++ 0x20 ∷ plain ++ 0x40 ∷ 0x42 ∷ 4 ∷ 0 ∷ 1 ∷ []) 9 20
    ∷ job (one ++ 0x20 ∷ 0x30 ∷ 1 ∷ []) 9 15
    -- a column of a table that the extract uses and the query doesn't
    ∷ job (one ++ one ++ 0x20 ∷ 0x30 ∷ 0 ∷ 0x30 ∷ 1 ∷ 0x31 ∷ 0 ∷ 0x21 ∷ 0x30 ∷ 1 ∷ 0x31 ∷ 0 ∷ []) 9 34
    ∷ job (one ++ one ++ 0x20 ∷ 0x30 ∷ 1 ∷ 0x30 ∷ 0 ∷ []) 10 27
    ∷ job (one ++ one ++ 0x20 ∷ 0x30 ∷ 1 ∷ 0x30 ∷ 1 ∷ []) 10 27
    ∷ job (two ++ 0x20 ∷ plain ++ 0x31 ∷ 1 ∷ 0x31 ∷ 0 ∷ []) 10 30
    -- the query begins where the extract may end, and the job ends where the query may
    ∷ job (one ++ 0x20 ∷ plain ++ 0x40 ∷ 0x41 ∷ 0 ∷ 0 ∷ 1 ∷ 0 ∷ 0 ∷ 0 ∷ 0x21 ∷ []) 2 28
    ∷ job (one ++ 0x20 ∷ plain ++ 0x40 ∷ 0x42 ∷ 0 ∷ 0 ∷ 0 ∷ 0x21 ∷ []) 2 25
    ∷ job (one ++ 0x20 ∷ plain ++ 0x21 ∷ plain ++ 0x40 ∷ 0xFF ∷ 0 ∷ []) 11 26
    ∷ job (one ++ 0x20 ∷ plain ++ 0x21 ∷ plain ++ 0x40 ∷ 0x42 ∷ 0 ∷ 0 ∷ 0 ∷ 0xFF ∷ 0 ∷ []) 11 30
    -- the query begins once, and the job ends in it
    ∷ job (one ++ 0x20 ∷ plain ++ 0x21 ∷ plain ++ 0x21 ∷ []) 4 24
    ∷ job (one ++ 0x20 ∷ plain ++ 0xFF ∷ []) 4 19
    ∷ job (one ++ 0x20 ∷ plain ++ 0x21 ∷ plain ++ 0xFF ∷ 0x10 ∷ 0x10 ∷ []) 11 25
    ∷ []

refusals_read : map (λ x. read_of x.bytes) refusals ≡ map (λ x. x.says) refusals
unfolding refusals read_of step_of taken command_of uses
refusals_read = refl
