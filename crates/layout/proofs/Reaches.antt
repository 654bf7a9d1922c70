-- The entries of a well-formed job pass the checks, one by one: tables with their columns, then expressions. Assumes nothing.
use mathlib.Core.Path.{◌≡◌, refl, sym, ap, ◌∙◌}
use mathlib.Core.Bool.{Bool, true, false, not, ◌&&◌, ◌||◌}
use mathlib.Core.List.{List, [], ◌∷◌, ◌++◌, map, append_assoc, append-nil}
use Prim.Native.Nat.{ℕ, ◌+◌, ◌≤◌, ◌<◌}
use native.Mathlib.Omega.{arith}
use lib.ListN.{length, length-append}
use lib.Signed.{le_z}
use mir.Facts.{and_yes, yes_and}
use lib.Dec.{T, eqb, ltb, leb→le, ltb→lt, lt→ltb, le→leb}
use Rattle.model.proofs.Formed.{Formed, Limited, WellFormed, near, range_word}
use Rattle.base.specs.Lists.{any_of, all_of, concat, is_empty, flat_map, last_of}
use Rattle.base.proofs.Lists.{all_among, last_append, in_last_lem, length_concat, all_concat}
use Rattle.base.proofs.Tests.{or_right}
use Rattle.words.specs.Compare.{number_of_op}
use Rattle.words.specs.declared.Op.{Op}
use Rattle.model.specs.Tables.{Table, Against, column, number, Comparison, Clause, Expression, Job, columns_of, table_of, uses}
use Rattle.model.specs.declared.Bounds.{Bounds}
use Rattle.model.specs.WellFormed.{table_formed, in_scope, against_in_scope, comparison_formed, in_range, against_limited}
use Rattle.words.proofs.Ops.{op_number}
use Rattle.layout.specs.declared.Command.{Command}
use Rattle.layout.specs.declared.Command.TheVariants.{NextColumn, TableUsed, OutputColumn, NextClause, NumberCompared, ColumnCompared}
use Rattle.layout.specs.Commands.{in_condition, ending, before, Entry, add_table, add_column, use_table, add_output, add_clause, add_comparison}
use Rattle.layout.specs.Reading.{State, no_expression, at_start, current, has_room, in_ranges, op_known, declared, is_new, with_current, added}
use Rattle.layout.specs.Writing.{table_entries, clause_entries, expression_entries}
use Rattle.layout.proofs.Taken.{Spelled, spelled_table, spelled_column, spelled_used, spelled_output, spelled_clause, spelled_against, spelled_columns, Legal}
use Rattle.layout.proofs.Taken.{Run, done, run_one, run_append}
use Rattle.layout.proofs.Growing.{above_at, new_at, not_empty}

-- ---- a list of things, one after the other

-- through some entries, to a state S that differs in the last command's byte only
abbrev pub Reaches : State → List Entry → List ℕ → (ℕ → State) → Type 0
Reaches st es ok S = (l : ℕ) × T (any_of (eqb l) ok) × Run st es (S l)

any_more : (b : ℕ) (bs : List ℕ) (l : ℕ) → T (any_of (eqb l) bs) → T (any_of (eqb l) (b ∷ bs))
any_more b bs l h = or_right (eqb l b) (any_of (eqb l) bs) h

any_first : (b : ℕ) (bs : List ℕ) (l : ℕ) → T (any_of (eqb l) (b ∷ [])) → T (any_of (eqb l) (b ∷ bs))
any_first b bs l h = go (eqb l b) h
  where
    go : (t : Bool) → T (t || false) → T (t || any_of (eqb l) bs)
    go true k = tt
    go false k = absurd k

-- if one thing more can be written wherever one of `from` was last, and leaves one of `to`
module _ {A : Type 0} (g : A → List Entry) (S : List A → ℕ → State) (from to : List ℕ)
    (wider : (l : ℕ) → T (any_of (eqb l) to) → T (any_of (eqb l) from)) (all : List A)
    (one : (xs : List A) (x : A) (ys : List A) → all ≡ xs ++ x ∷ ys → (l : ℕ) → T (any_of (eqb l) from)
    → Reaches (S xs l) (g x) to (S (xs ++ x ∷ []))) where
  reach_rest : (xs ys : List A) → all ≡ xs ++ ys → (l : ℕ) → T (any_of (eqb l) to) → Reaches (S xs l) (flat_map ys g) to (S all)
  reach_rest xs [] q l h = (l, h, rw (q, append-nil) done)
  reach_rest xs (y ∷ ys) q l h =
      let (m, k, r) = one xs y ys q l (wider l h) in
      let (n, i, t) = reach_rest (xs ++ y ∷ []) ys (q ∙ sym (append_assoc xs (y ∷ []) ys)) m k in
      (n, i, run_append r t)

  reach_some : T (not (is_empty all)) → (l : ℕ) → T (any_of (eqb l) from) → Reaches (S [] l) (flat_map all g) to (S all)
  reach_some t l h = go all refl t
    where
      go : (zs : List A) → all ≡ zs → T (not (is_empty zs)) → Reaches (S [] l) (flat_map zs g) to (S all)
      go [] q e = absurd e
      go (z ∷ zs) q e =
          let (m, k, r) = one [] z zs q l h in
          let (n, i, t) = reach_rest (z ∷ []) zs q m k in
          (n, i, run_append r t)

flat_map_lem : {A : Type 0} (f : A → Entry) (xs : List A) → map f xs ≡ flat_map xs (λ x. f x ∷ [])
flat_map_lem f [] = refl
flat_map_lem f (x ∷ xs) = rw (flat_map_lem f xs)

-- ---- tables
abbrev column_entry : Bounds → Entry
column_entry b = add_column b.lo b.hi

-- some tables have been read, and nothing else
abbrev pub with_only : List Table → ℕ → State
with_only ts l = record { last = l; in_query = false; job = record { tables = ts; extract = no_expression; query = no_expression } }

take_table : (ts : List Table) (l : ℕ) → T (any_of (eqb l) (0 ∷ 0x11 ∷ [])) → length ts < 4
    → Run (with_only ts l) (add_table ∷ []) (with_only (ts ++ [] ∷ []) 0x10)
take_table ts l o h =
    run_one spelled_table refl (record { order = o; room = lt→ltb (length ts) 4 h; range = tt; op = tt; named = tt; fresh = tt }) refl

take_column : (ts : List Table) (bs : Table) (b : Bounds) (l : ℕ) → T (any_of (eqb l) (0x10 ∷ 0x11 ∷ []))
    → length (columns_of (ts ++ bs ∷ [])) < 16
    → T (in_range b.lo && in_range b.hi) → T (le_z b.lo b.hi)
    → Run (with_only (ts ++ bs ∷ []) l) (column_entry b ∷ []) (with_only (ts ++ (bs ++ b ∷ []) ∷ []) 0x11)
take_column ts bs b l o h r i =
    let (x, y) = and_yes (in_range b.lo) (in_range b.hi) r in
    let legal : Legal (with_only (ts ++ bs ∷ []) l) NextColumn (column_entry b) = record {
      order = o;
      room = lt→ltb (length (columns_of (ts ++ bs ∷ []))) 16 h;
      range = yes_and (in_range b.lo && in_range b.hi) (le_z b.lo b.hi) r i;
      op = tt;
      named = tt;
      fresh = tt;
    } in
    run_one (spelled_column b.lo b.hi (range_word b.lo x) (range_word b.hi y)) refl legal (rw (in_last_lem ts bs b))

-- a table's columns, behind other tables
module _ (ts : List Table) (t : Table) (few : length (concat ts) + length t ≤ 16)
    (ranges : T (all_of (λ b. in_range b.lo && in_range b.hi) t)) (ordered : T (all_of (λ b. le_z b.lo b.hi) t)) where
  reach_column : (bs : Table) (b : Bounds) (cs : Table) → t ≡ bs ++ b ∷ cs → (l : ℕ) → T (any_of (eqb l) (0x10 ∷ 0x11 ∷ []))
      → Reaches (with_only (ts ++ bs ∷ []) l) (column_entry b ∷ []) (0x11 ∷ []) (with_only (ts ++ (bs ++ b ∷ []) ∷ []))
  reach_column bs b cs q l o =
      let room : length (concat (ts ++ bs ∷ [])) < 16 =
      omega (arith, length_concat ts (bs ∷ []), length-append bs [], ap length q, length-append bs (b ∷ cs)) in
      (0x11, tt, take_column ts bs b l o room (all_among _ bs b cs q ranges) (all_among _ bs b cs q ordered))

  reach_columns : T (not (is_empty t))
      → Reaches (with_only (ts ++ [] ∷ []) 0x10) (map column_entry t) (0x11 ∷ []) (with_only (ts ++ t ∷ []))
  reach_columns some =
      rw (flat_map_lem column_entry t)
      (reach_some _ (λ bs. with_only (ts ++ bs ∷ [])) (0x10 ∷ 0x11 ∷ []) (0x11 ∷ []) (any_more 0x10 (0x11 ∷ [])) t reach_column some 0x10 tt)

module _ (j : Job) (w : WellFormed j) where
  -- a table, behind some and before others
  reach_table : (ts : List Table) (t : Table) (us : List Table) → j.tables ≡ ts ++ t ∷ us → (l : ℕ) → T (any_of (eqb l) (0 ∷ 0x11 ∷ []))
      → Reaches (with_only ts l) (table_entries t) (0x11 ∷ []) (with_only (ts ++ t ∷ []))
  reach_table ts t us q l o =
      let (some, ordered) = and_yes (not (is_empty t)) (all_of (λ b. le_z b.lo b.hi) t)
      (all_among table_formed ts t us q w.formed.tables) in
      let tables = w.limits.few_tables in
      let columns = w.limits.few_columns in
      let few : length (concat ts) + length t ≤ 16 =
      omega (arith, ap (λ us. length (concat us)) q, length_concat ts (t ∷ us), length-append t (concat us)) in
      let near-all = all_among (all_of near) ts t us q (all_concat near j.tables w.limits.ranges) in
      let (m, k, r) = reach_columns ts t few near-all ordered some in
      (m, k, run_append (take_table ts l o (omega (arith, ap length q, length-append ts (t ∷ us)))) r)

  pub reach_tables : Reaches at_start (flat_map j.tables table_entries) (0x11 ∷ []) (with_only j.tables)
  reach_tables =
      reach_some table_entries with_only (0 ∷ 0x11 ∷ []) (0x11 ∷ []) (any_more 0 (0x11 ∷ [])) j.tables reach_table
      (not_empty j.tables w.limits.some_tables) 0 tt

-- ---- expressions
abbrev comparison_entry : Comparison → Entry
comparison_entry k = add_comparison (number_of_op k.op) k.left k.right

-- amid the query (or the extract) of j, of which e has been read
abbrev pub amid : Bool → ℕ → Job → Expression → State
amid q l j e = record { last = l; in_query = q; job = with_current q j e }

-- the checks, for either expression alike
legal_in : (q : Bool) (l : ℕ) (j : Job) (e : Expression) (c : Command) (n : Entry) → T (any_of (eqb l) (before q c))
    → ((st : State) → current st ≡ e → T (has_room st c)) → T (in_ranges n) → T (op_known n) → T (declared j.tables e n) → T (is_new e n)
    → Legal (amid q l j e) c n
legal_in true l j e c n o r i k d f = record { order = o; room = r (amid true l j e) refl; range = i; op = k; named = d; fresh = f }
legal_in false l j e c n o r i k d f = record { order = o; room = r (amid false l j e) refl; range = i; op = k; named = d; fresh = f }

-- one entry, with which e becomes f
take_in : (q : Bool) (l : ℕ) (j : Job) (e f : Expression) {c : Command} {b : ℕ} {n : Entry} → Spelled c b n
    → eqb b 0xFF ≡ false → eqb b 0x21 ≡ false → ((k : Job) → added q k e n ≡ with_current q k f)
    → Legal (amid q l j e) c n → Run (amid q l j e) (n ∷ []) (amid q b j f)
take_in true l j e f w o i a h = run_one w o h (rw (a (with_current true j e)))
take_in false l j e f w o i a h = run_one w o h (rw (i, a (with_current false j e)))

op_below : (o : Op) → number_of_op o ≤ 4
op_below o = grind arith

abbrev up_to : List ℕ → List ℕ → List Clause → Expression
up_to us os ks = record { used = us; outputs = os; condition = ks }

-- an expression that is well formed over the tables of j
module _ (q : Bool) (j : Job) (few : length j.tables ≤ 4) (columns : length (columns_of j.tables) ≤ 16)
    (x : Expression) (w : Formed j.tables x) (limits : Limited x.condition) where
  -- what is in scope depends on the used tables alone
  scope : (os : List ℕ) (ks : List Clause) (c : ℕ) → T (in_scope j.tables x c) → T (in_scope j.tables (up_to x.used os ks) c)
  unfolding uses
  scope os ks c h = h

  scope_below : (c : ℕ) → T (in_scope j.tables x c) → c < 256
  scope_below c h =
      let n = length (columns_of j.tables) in
      omega (arith, ltb→lt c n (and_yes (ltb c n) (uses x (table_of j.tables c)) h).0)

  -- ---- used tables
  abbrev used_up_to : List ℕ → ℕ → State
  used_up_to ts l = amid q l j (up_to ts [] [])

  reach_used : (ts : List ℕ) (t : ℕ) (us : List ℕ) → x.used ≡ ts ++ t ∷ us → (l : ℕ) → T (any_of (eqb l) (0x20 ∷ 0x21 ∷ 0x30 ∷ []))
      → Reaches (used_up_to ts l) (use_table t ∷ []) (0x30 ∷ []) (used_up_to (ts ++ t ∷ []))
  reach_used ts t us p l o =
      let named : T (ltb t (length j.tables)) = all_among _ ts t us p w.declared in
      let small : t < 256 = omega (arith, ltb→lt t (length j.tables) named) in
      let new = above_at ts t us (rw p at w.ascends) in
      let legal = legal_in q l j (up_to ts [] []) TableUsed (use_table t) o (λ st h. tt) tt tt named new in
      (0x30, tt, take_in q l j (up_to ts [] []) (up_to (ts ++ t ∷ []) [] []) (spelled_used t small) refl refl (λ k. refl) legal)

  reach_all_used : (l : ℕ) → T (any_of (eqb l) (0x20 ∷ 0x21 ∷ 0x30 ∷ []))
      → Reaches (amid q l j no_expression) (map use_table x.used) (0x30 ∷ []) (used_up_to x.used)
  reach_all_used l o =
      rw (flat_map_lem use_table x.used)
      (reach_some _ used_up_to (0x20 ∷ 0x21 ∷ 0x30 ∷ []) (0x30 ∷ [])
      (λ l h. any_more 0x20 (0x21 ∷ 0x30 ∷ []) l (any_more 0x21 (0x30 ∷ []) l h)) x.used reach_used w.some_used l o)

  -- ---- outputs
  abbrev outputs_up_to : List ℕ → ℕ → State
  outputs_up_to os l = amid q l j (up_to x.used os [])

  reach_output : (os : List ℕ) (c : ℕ) (ps : List ℕ) → x.outputs ≡ os ++ c ∷ ps → (l : ℕ) → T (any_of (eqb l) (0x30 ∷ 0x31 ∷ []))
      → Reaches (outputs_up_to os l) (add_output c ∷ []) (0x31 ∷ []) (outputs_up_to (os ++ c ∷ []))
  reach_output os c ps p l o =
      let named : T (in_scope j.tables x c) = all_among (in_scope j.tables x) os c ps p w.outputs in
      let new = new_at os c ps (rw p at w.differ) in
      let e = up_to x.used os [] in
      let legal = legal_in q l j e OutputColumn (add_output c) o (λ st h. tt) tt tt (scope os [] c named) new in
      (0x31, tt, take_in q l j e (up_to x.used (os ++ c ∷ []) []) (spelled_output c (scope_below c named)) refl refl (λ k. refl) legal)

  reach_outputs : (l : ℕ) → T (any_of (eqb l) (0x30 ∷ 0x31 ∷ []))
      → Reaches (outputs_up_to [] l) (map add_output x.outputs) (0x31 ∷ []) (outputs_up_to x.outputs)
  reach_outputs l o =
      rw (flat_map_lem add_output x.outputs)
      (reach_some _ outputs_up_to (0x30 ∷ 0x31 ∷ []) (0x31 ∷ []) (any_more 0x30 (0x31 ∷ [])) x.outputs reach_output w.some_outputs l o)

  -- ---- conditions
  abbrev clauses_up_to : List Clause → ℕ → State
  clauses_up_to ks l = amid q l j (up_to x.used x.outputs ks)

  scope_against : (ks : List Clause) (r : Against) → T (against_in_scope j.tables x r)
      → T (against_in_scope j.tables (up_to x.used x.outputs ks) r)
  scope_against ks (number v) h = tt
  scope_against ks (column c) h = scope x.outputs ks c h

  -- a comparison in its clause c, behind other clauses, by either command
  take_comparison : (ks : List Clause) (c : Clause) (k : Comparison) (l : ℕ) {d : Command} {b : ℕ}
      → Spelled d b (comparison_entry k) → eqb b 0xFF ≡ false → eqb b 0x21 ≡ false
      → T (any_of (eqb l) (before q d)) → ((st : State) → current st ≡ up_to x.used x.outputs (ks ++ c ∷ []) → T (has_room st d))
      → T (against_limited k.right) → T (comparison_formed j.tables x k)
      → Run (clauses_up_to (ks ++ c ∷ []) l) (comparison_entry k ∷ []) (clauses_up_to (ks ++ (c ++ k ∷ []) ∷ []) b)
  take_comparison ks c k l s n m o r i h =
      let e = up_to x.used x.outputs (ks ++ c ∷ []) in
      let op = number_of_op k.op in
      let (f, g) = and_yes (in_scope j.tables x k.left) (against_in_scope j.tables x k.right) h in
      let named = yes_and (in_scope j.tables e k.left) (against_in_scope j.tables e k.right)
      (scope x.outputs (ks ++ c ∷ []) k.left f) (scope_against (ks ++ c ∷ []) k.right g) in
      let legal = legal_in q l j e _ (comparison_entry k) o r i (le→leb op 4 (op_below k.op)) named tt in
      take_in q l j e (up_to x.used x.outputs (ks ++ (c ++ k ∷ []) ∷ [])) s n m (λ z. rw (op_number k.op, in_last_lem ks c k)) legal

  reach_comparison : (ks : List Clause) (c : Clause) (k : Comparison) (l : ℕ) → T (any_of (eqb l) in_condition) → length c < 6
      → T (against_limited k.right) → T (comparison_formed j.tables x k)
      → Reaches (clauses_up_to (ks ++ c ∷ []) l) (comparison_entry k ∷ []) in_condition (clauses_up_to (ks ++ (c ++ k ∷ []) ∷ []))
  reach_comparison ks c k l o f i h = go k.right refl
    where
      room : (st : State) → current st ≡ up_to x.used x.outputs (ks ++ c ∷ []) → T (ltb (length (last_of (current st).condition)) 6)
      room st p = rw (p, last_append ks c) (lt→ltb (length c) 6 f)

      below : number_of_op k.op < 256
      below = omega (arith, op_below k.op)

      scopes : T (in_scope j.tables x k.left) × T (against_in_scope j.tables x k.right)
      scopes = and_yes (in_scope j.tables x k.left) (against_in_scope j.tables x k.right) h

      go : (r : Against) → k.right ≡ r
          → Reaches (clauses_up_to (ks ++ c ∷ []) l) (comparison_entry k ∷ []) in_condition (clauses_up_to (ks ++ (c ++ k ∷ []) ∷ []))
      go (number v) p =
          let spelled : Spelled NumberCompared 0x41 (comparison_entry k) =
          rw p (spelled_against (number_of_op k.op) k.left v below (scope_below k.left scopes.0) (range_word v (rw p at i))) in
          (0x41, tt, take_comparison ks c k l spelled refl refl o room i h)
      go (column n) p =
          let known : T (in_scope j.tables x n) = rw p at scopes.1 in
          let spelled : Spelled ColumnCompared 0x42 (comparison_entry k) =
          rw p (spelled_columns (number_of_op k.op) k.left n below (scope_below k.left scopes.0) (scope_below n known)) in
          (0x42, tt, take_comparison ks c k l spelled refl refl o room i h)

  -- the comparisons of a clause c, behind other clauses
  reach_comparisons : (ks : List Clause) (c : Clause) → length c ≤ 6 → T (all_of (λ k. against_limited k.right) c)
      → T (all_of (comparison_formed j.tables x) c)
      → Reaches (clauses_up_to (ks ++ [] ∷ []) 0x40) (map comparison_entry c) in_condition (clauses_up_to (ks ++ c ∷ []))
  reach_comparisons ks c few Near-by h =
      rw (flat_map_lem comparison_entry c)
      (reach_rest _ (λ b. clauses_up_to (ks ++ b ∷ [])) in_condition in_condition (λ l o. o) c one [] c refl 0x40 tt)
    where
      one : (b : Clause) (k : Comparison) (a : Clause) → c ≡ b ++ k ∷ a → (l : ℕ) → T (any_of (eqb l) in_condition)
          → Reaches (clauses_up_to (ks ++ b ∷ []) l) (comparison_entry k ∷ []) in_condition (clauses_up_to (ks ++ (b ++ k ∷ []) ∷ []))
      one b k a p l o =
          let shorter : length b < 6 = omega (arith, ap length p, length-append b (k ∷ a)) in
          reach_comparison ks b k l o shorter (all_among _ b k a p Near-by) (all_among _ b k a p h)

  reach_clause : (ks : List Clause) (c : Clause) (ms : List Clause) → x.condition ≡ ks ++ c ∷ ms → (l : ℕ) → T (any_of (eqb l) ending)
      → Reaches (clauses_up_to ks l) (clause_entries c) ending (clauses_up_to (ks ++ c ∷ []))
  reach_clause ks c ms p l o =
      let few : length ks < 4 = omega (arith, limits.few_clauses, ap length p, length-append ks (c ∷ ms)) in
      let e = up_to x.used x.outputs ks in
      let legal = legal_in q l j e NextClause add_clause o (λ st h. rw h (lt→ltb (length ks) 4 few)) tt tt tt tt in
      let r = take_in q l j e (up_to x.used x.outputs (ks ++ [] ∷ [])) spelled_clause refl refl (λ k. refl) legal in
      let formed = all_among (all_of (comparison_formed j.tables x)) ks c ms p w.condition in
      let (m, k, t) = reach_comparisons ks c (leb→le (length c) 6 (all_among _ ks c ms p limits.few_comparisons))
      (all_among _ ks c ms p limits.numbers) formed in
      (m, any_more 0x31 in_condition m k, run_append r t)

  reach_clauses : (l : ℕ) → T (any_of (eqb l) (0x31 ∷ []))
      → Reaches (clauses_up_to [] l) (flat_map x.condition clause_entries) ending (clauses_up_to x.condition)
  reach_clauses l o =
      reach_rest clause_entries clauses_up_to ending ending (λ n h. h) x.condition reach_clause [] x.condition refl l
      (any_first 0x31 in_condition l o)

  pub reach_expression : (l : ℕ) → T (any_of (eqb l) (0x20 ∷ 0x21 ∷ 0x30 ∷ []))
      → Reaches (amid q l j no_expression) (expression_entries x) ending (λ m. amid q m j x)
  unfolding expression_entries
  reach_expression l o =
      let (a, f, r) = reach_all_used l o in
      let (b, g, s) = reach_outputs a (any_first 0x30 (0x31 ∷ []) a f) in
      let (c, h, t) = reach_clauses b g in
      (c, h, run_append (run_append r s) t)
