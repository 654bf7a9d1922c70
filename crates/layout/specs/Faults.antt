-- The numbers of document 01's refusals, and refusals as the code has them.
use Rattle.std.specs.Prelude.{cond, ℕ, eqb}
use Rattle.layout.specs.declared.Fault.{Fault}
use Rattle.layout.specs.declared.Fault.TheVariants.{Start, Missing, Unlisted, OutOfOrder, NoRoom, NoOperands, OutOfRange, UnknownOp}
use Rattle.layout.specs.declared.Fault.TheVariants.{Undeclared, NotNew, Trailing, NeverRead, TooFewBytes}
use Rattle.layout.specs.declared.Refusal.{Refusal}

abbrev pub number_of_fault : Fault → ℕ
number_of_fault Start = 1
number_of_fault Missing = 2
number_of_fault Unlisted = 3
number_of_fault OutOfOrder = 4
number_of_fault NoRoom = 5
number_of_fault NoOperands = 6
number_of_fault OutOfRange = 7
number_of_fault UnknownOp = 8
number_of_fault Undeclared = 9
number_of_fault NotNew = 10
number_of_fault Trailing = 11
number_of_fault NeverRead = 12
number_of_fault TooFewBytes = 17

-- the fault of a number that has one, as each fault has its own (the theorem fault_back). It is asked about no other, such as 13 to 16:
-- reading refuses under numbers of faults alone (the theorem read_numbered), writing and deciding under 12 and 17.
abbrev pub fault_of : ℕ → Fault
fault_of n =
    cond (eqb n 1) Start
    (cond (eqb n 2) Missing
    (cond (eqb n 3) Unlisted
    (cond (eqb n 4) OutOfOrder
    (cond (eqb n 5) NoRoom
    (cond (eqb n 6) NoOperands
    (cond (eqb n 7) OutOfRange
    (cond (eqb n 8) UnknownOp
    (cond (eqb n 9) Undeclared
    (cond (eqb n 10) NotNew
    (cond (eqb n 11) Trailing
    (cond (eqb n 12) NeverRead
    TooFewBytes)))))))))))

-- refusal n at a position
abbrev pub refusal_of : ℕ → ℕ → Refusal
refusal_of n at = record { fault = fault_of n; at = at }
