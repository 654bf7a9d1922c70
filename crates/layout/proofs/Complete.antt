-- The bytes of a well-formed job are bytes, and reading them gives the job. Assumes nothing.
use mathlib.Core.Path.{◌≡◌, refl, ap}
use mathlib.Core.Bool.{true, false}
use mathlib.Core.List.{List, [], ◌∷◌, ◌++◌}
use Prim.Native.Nat.{◌<◌}
use native.Mathlib.Omega.{arith}
use lib.ListN.{length, length-append}
use lib.Dec.{T}
use Rattle.base.specs.Lists.{flat_map}
use Rattle.base.specs.Bytes.{Bytes}
use Rattle.base.proofs.Lists.{flat_map_append}
use Rattle.base.proofs.Bytes.{bytes_none, bytes_more, bytes_append}
use Rattle.model.specs.Tables.{Job}
use Rattle.model.specs.WellFormed.{well_formed}
use Rattle.model.proofs.Formed.{WellFormed, well_formed_lem}
use Rattle.layout.specs.declared.Command.TheVariants.{ExtractBegins, QueryBegins, End}
use Rattle.layout.specs.Commands.{start_bytes, ending, Entry, mark}
use Rattle.layout.specs.Reading.{no_expression, at_start, accepted, read_of}
use Rattle.layout.specs.Writing.{entry_bytes, table_entries, expression_entries, entries_of, job_bytes}
use Rattle.layout.proofs.Taken.{spelled_extract, spelled_query, Legal, then, run_append, run_bytes, run_length, run_accepted}
use Rattle.layout.proofs.Reaches.{Reaches, with_only, reach_tables, amid, reach_expression}

-- all entries but the end
abbrev content : Job → List Entry
content j = flat_map j.tables table_entries ++ (mark 0x20 ∷ expression_entries j.extract) ++ (mark 0x21 ∷ expression_entries j.query)

reach_end : (j : Job) → WellFormed j → Reaches at_start (content j) ending (λ l. record { last = l; in_query = true; job = j })
reach_end j w =
    let tables = w.limits.few_tables in
    let columns = w.limits.few_columns in
    let k : Job = record { tables = j.tables; extract = no_expression; query = no_expression } in
    let m : Job = record { tables = j.tables; extract = j.extract; query = no_expression } in
    let (a, f, r) = reach_tables j w in
    let (b, g, s) = reach_expression false k tables columns j.extract w.formed.extract w.limits.extract 0x20 tt in
    let (c, h, t) = reach_expression true m tables columns j.query w.formed.query w.limits.query 0x21 tt in
    let extract : Legal (with_only j.tables a) ExtractBegins (mark 0x20) =
    record { order = f; room = tt; range = tt; op = tt; named = tt; fresh = tt } in
    let query : Legal (amid false b k j.extract) QueryBegins (mark 0x21) =
    record { order = g; room = tt; range = tt; op = tt; named = tt; fresh = tt } in
    (c, h, run_append (run_append r (then spelled_extract refl extract s)) (then spelled_query refl query t))

job_bytes_lem : (j : Job) → job_bytes j ≡ start_bytes ++ (flat_map (content j) entry_bytes ++ 0xFF ∷ [])
unfolding job_bytes entries_of
job_bytes_lem j = ap (λ bs. start_bytes ++ bs) (flat_map_append (content j) (mark 0xFF ∷ []) entry_bytes)

pub written_bytes : (j : Job) → T (well_formed j) → Bytes (job_bytes j)
written_bytes j t =
    let (l, o, r) = reach_end j (well_formed_lem j t) in
    let F = flat_map (content j) entry_bytes in
    let last = bytes_append F (0xFF ∷ []) (run_bytes r) (bytes_more 0xFF [] (omega arith) bytes_none) in
    let start : Bytes start_bytes =
    bytes_more 0x50 (0x53 ∷ 0x4A ∷ 0x31 ∷ []) (omega arith) (bytes_more 0x53 (0x4A ∷ 0x31 ∷ []) (omega arith)
    (bytes_more 0x4A (0x31 ∷ []) (omega arith) (bytes_more 0x31 [] (omega arith) bytes_none))) in
    rw (job_bytes_lem j) (bytes_append start_bytes (F ++ 0xFF ∷ []) start last)

pub read_written : (j : Job) → T (well_formed j) → read_of (job_bytes j) ≡ accepted j
unfolding read_of
read_written j t =
    let (l, o, r) = reach_end j (well_formed_lem j t) in
    let F = flat_map (content j) entry_bytes in
    let s = start_bytes ++ (F ++ 0xFF ∷ []) in
    let end : Legal (record { last = l; in_query = true; job = j }) End (mark 0xFF) =
    record { order = o; room = tt; range = tt; op = tt; named = tt; fresh = tt } in
    let enough : length (content j) < length s = omega (arith, run_length r, length-append F (0xFF ∷ [])) in
    rw (job_bytes_lem j) (run_accepted r end s start_bytes 4 (length s) refl refl enough)
