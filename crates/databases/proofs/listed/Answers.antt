-- `databases::listed` meets its contract. Assumes nothing.
use mathlib.Core.Path.{◌≡◌}
use lib.ListN.{take}
use lib.Dec.{eqb}
use borrow.Author.Rules.{rules}
use Rattle.base.specs.Lists.{any_of}
use Rattle.databases.proofs.Listing.{listed_out, listed_stored, listed_other}
use Rattle.databases.proofs.listed.Goals as goal

pub returns-then-not-uses : goal.returns-then-not-uses
returns-then-not-uses c = listed_out _ _ _ _ c.uses.ensures c.if-not-uses.true-raw

pub returns-then-contains : goal.returns-then-contains
returns-then-contains c =
    let a = c.args in let e = a.extract.now in
    let told : c.contains.result ≡ any_of (eqb a.c) (take e.width e.outputs) = search rules in
    listed_stored a.k.now e a.marks a.c c.uses.ensures c.if-not-uses.false-raw told c.if-contains.true

pub returns-then-marks-c : goal.returns-then-marks-c
returns-then-marks-c c =
    let a = c.args in let e = a.extract.now in
    let told : c.contains.result ≡ any_of (eqb a.c) (take e.width e.outputs) = search rules in
    listed_other a.k.now e a.marks a.c c.uses.ensures c.if-not-uses.false-raw told c.if-contains.false c.if-marks-c.true

pub returns-else-marks-c : goal.returns-else-marks-c
returns-else-marks-c c =
    let a = c.args in let e = a.extract.now in
    let told : c.contains.result ≡ any_of (eqb a.c) (take e.width e.outputs) = search rules in
    listed_other a.k.now e a.marks a.c c.uses.ensures c.if-not-uses.false-raw told c.if-contains.false c.if-marks-c.false
