-- `writer::write` meets its contract: the parts, one after the other, for which there is room. Assumes nothing.
use mathlib.Core.Path.{refl}
use borrow.Author.Rules.{rules}
use Rattle.base.proofs.Bytes.{and_then_lem}
use Rattle.job.proofs.Records.{sized}
use Rattle.writer.proofs.Meant.{record_bytes}
use Rattle.writer.proofs.Most.{written, room_tables, room_extract, room_query, room_end}
use Rattle.writer.proofs.write.Goals as goal

pub put_tables-requires : goal.put_tables-requires
put_tables-requires c =
    room_tables c.args.job (sized c.args.job _ c.well_formed.0) refl c.requires c.put_all.ensures

pub put_expression-requires : goal.put_expression-requires
put_expression-requires c =
    let tables = and_then_lem c.put_all.ensures c.put_tables.ensures in
    room_extract c.args.job (sized c.args.job _ c.well_formed.0) refl c.requires tables

pub put_expression-requires-2 : goal.put_expression-requires-2
put_expression-requires-2 c =
    let tables = and_then_lem c.put_all.ensures c.put_tables.ensures in
    let extract = and_then_lem tables c.put_expression.ensures in
    room_query c.args.job (sized c.args.job _ c.well_formed.0) refl c.requires extract

pub put-requires : goal.put-requires
put-requires c =
    let tables = and_then_lem c.put_all.ensures c.put_tables.ensures in
    let extract = and_then_lem tables c.put_expression.ensures in
    let query = and_then_lem extract c.put_expression-2.ensures in
    rw c.from.ensures (room_end c.args.job (sized c.args.job _ c.well_formed.0) refl c.requires query)

pub returns : goal.returns
unfolding record_bytes
returns c =
    let tables = and_then_lem c.put_all.ensures c.put_tables.ensures in
    let extract = and_then_lem tables c.put_expression.ensures in
    let query = and_then_lem extract c.put_expression-2.ensures in
    let r = written c.args.job refl (search rules) (and_then_lem query (rw c.from.ensures at c.put.ensures)) in
    record { count = r.0; bytes = r.1 }
