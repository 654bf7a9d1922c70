-- What an entry adds to the record that is being read into: the effect is the definition's, and there is room for it. Assumes nothing.
use mathlib.Core.Path.{◌≡◌, ap, ◌∙◌}
use mathlib.Core.Logic.{⊎_elim}
use mathlib.Core.Bool.{true, false, not}
use mathlib.Core.List.{List, [], ◌∷◌}
use Prim.Native.Nat.{ℕ, suc, ◌-◌, ◌<◌}
use native.Mathlib.Omega.{arith}
use lib.ListN.{length, length-append}
use lib.Dec.{T, eqb, ltb}
use mir.Facts.{and_yes}
use borrow.Author.Tests.{ltb-true, not-true}
use Rattle.base.specs.Lists.{any_of, is_empty, last_of}
use Rattle.base.proofs.Tests.{T-is, is_T}
use Rattle.model.specs.Tables as model
use Rattle.model.specs.Tables.{Table, Against, columns_of}
use Rattle.model.specs.declared.Bounds.{Bounds}
use Rattle.model.specs.WellFormed.{in_scope}
use Rattle.words.specs.Compare.{op_at}
use Rattle.job.specs.declared.Condition.{Condition}
use Rattle.job.specs.declared.Expression.{Expression}
use Rattle.job.specs.declared.Job.{Job}
use Rattle.job.specs.Meaning.{column_record, comparison_record, condition_record, expression_record, record_of}
use Rattle.layout.specs.declared.Command.{Command}
use Rattle.layout.specs.declared.Command.TheVariants.{NextTable, NextColumn, ExtractBegins, QueryBegins, TableUsed, OutputColumn, NextClause, NumberCompared}
use Rattle.layout.specs.declared.Command.TheVariants.{ColumnCompared, End}
use Rattle.layout.specs.Commands.{Entry, in_condition, add_table, add_column, use_table, add_output, add_clause, add_comparison, entry_at}
use Rattle.layout.specs.Reading.{State, current, follows, has_room, declared, is_new, above_last, with_condition, with_current, added}
use Rattle.layout.proofs.Growing.{either}
use Rattle.layout.proofs.Rooms.{used_room, outputs_room}
use Rattle.commands.specs.Reached.{Held}
use Rattle.commands.specs.Uses.{current_in, placed, grown, Fits, addition_of}
use Rattle.commands.specs.Uses.{table_more, column_more, used_more, output_more, clause_more, comparison_more, conditioned}
use Rattle.commands.proofs.Laid.{table_laid, column_laid, used_laid, output_laid, clause_laid, comparison_laid}
use Rattle.commands.proofs.Laid.{condition_laid, placed_laid}
use Rattle.commands.proofs.Keeping.{tables_held, width_held, current_held, used_held, outputs_held, condition_held, size_held, size_small, comparisons_held}

some_long : {A : Type 0} (l : List A) → T (not (is_empty l)) → 0 < length l
some_long [] t = absurd t
some_long (x ∷ l) t = omega arith

-- an entry is added rightly
pub record Added (r : Job) (st : State) (x : Entry) : Type 0 where
  pub told : grown st.in_query r (addition_of st x) ≡ record_of (added st.in_query st.job (current st) x)
  pub fits : Fits st.in_query r (addition_of st x)

module _ {r : Job} {st : State} (h : Held r st) where
  abbrev ts : List Table
  ts = st.job.tables

  -- the current expression, and how the record has it
  abbrev m : model.Expression
  m = current st

  abbrev ex : Expression
  ex = current_in st.in_query r

  laid : ex ≡ expression_record m
  laid = current_held h

  -- ---- declarations
  pub some_tables : follows st NextColumn ≡ true → 0 < r.declared.tables
  some_tables o =
      let there : 0 < length ts = ⊎_elim opened filled (either st.last 0x10 0x11 (is_T o)) in
      omega (arith, tables_held h)
    where
      opened : st.last ≡ 0x10 → 0 < length ts
      opened e = let u = h.sound.opened e in rw (u.1, length-append u.0 ([] ∷ [])) (omega arith)

      filled : st.last ≡ 0x11 → 0 < length ts
      filled e = some_long ts (h.sound.filled (omega arith)).0

  added_table : ltb (length ts) 4 ≡ true → Added r st add_table
  added_table f = record {
    told = ap table_more h.laid ∙ table_laid st.job;
    fits = omega (arith, tables_held h, ltb-true (length ts) 4 f);
  }

  added_column : (b : Bounds) → 0 < r.declared.tables → ltb (length (columns_of ts)) 16 ≡ true → Added r st (add_column b.lo b.hi)
  added_column b some room =
      let few : length (columns_of ts) < 16 = ltb-true (length (columns_of ts)) 16 room in
      record {
        told =
            ap (λ (x : Job). column_more x (column_record (length ts - 1) b)) h.laid
            ∙ column_laid st.job b (length ts - 1) (omega (arith, tables_held h)) few;
        fits = omega (arith, width_held h);
      }

  -- ---- the current expression
  placed_held : (x : Expression) (y : model.Expression) → x ≡ expression_record y
      → placed st.in_query r x ≡ record_of (with_current st.in_query st.job y)
  placed_held x y q =
      ap (λ (z : Job). placed st.in_query z x) h.laid
      ∙ ap (placed st.in_query (record_of st.job)) q ∙ placed_laid st.in_query st.job y

  added_used : (t : ℕ) → ltb t (length ts) ≡ true → above_last m.used t ≡ true → Added r st (use_table t)
  added_used t k a =
      let room : length m.used < 4 =
      omega (arith, h.sound.few_tables, used_room h.sound.begun t (ltb-true t (length ts) k) (is_T a)) in
      record {
        told = placed_held _ _ (ap (λ (z : Expression). used_more z t) laid ∙ used_laid m t room);
        fits = omega (arith, used_held h);
      }

  added_output : (c : ℕ) → in_scope ts m c ≡ true → any_of (eqb c) m.outputs ≡ false → Added r st (add_output c)
  added_output c f fresh =
      let below : c < length (columns_of ts) =
      ltb-true c _ (T-is (ltb c (length (columns_of ts))) (and_yes (ltb c (length (columns_of ts))) _ (is_T f)).0) in
      let room : length m.outputs < 16 = omega (arith, h.sound.few_columns, outputs_room h.sound.begun c below fresh) in
      record {
        told = placed_held _ _ (ap (λ (z : Expression). output_more z c) laid ∙ output_laid m c room);
        fits = omega (arith, outputs_held h);
      }

  -- ---- the condition
  conditioned_held : (x : Condition) (y : model.Condition) → x ≡ condition_record y
      → placed st.in_query r (conditioned ex x) ≡ record_of (with_current st.in_query st.job (with_condition m y))
  conditioned_held x y q = placed_held _ _ (ap (λ (z : Expression). conditioned z x) laid ∙ condition_laid m x y q)

  added_clause : ltb (length m.condition) 4 ≡ true → Added r st add_clause
  added_clause f =
      let few = ltb-true (length m.condition) 4 f in
      record {
        told = conditioned_held _ _ (ap clause_more (condition_held h) ∙ clause_laid m.condition few);
        fits = omega (arith, size_held h, few);
      }

  -- in the last clause, which is there and has room
  added_comparison : any_of (eqb st.last) in_condition ≡ true → ltb (length (last_of m.condition)) 6 ≡ true
      → (o l : ℕ) (a : Against) → Added r st (add_comparison o l a)
  added_comparison order room o l a =
      let c : model.Comparison = record { op = op_at o; left = l; right = a } in
      let some : 0 < length m.condition = some_long m.condition (h.sound.begun.some_clauses (is_T order)) in
      let last : suc (length m.condition - 1) ≡ length m.condition = omega (arith, some) in
      let few = ltb-true (length (last_of m.condition)) 6 room in
      let held =
      ap (λ (x : Condition). comparison_more x (comparison_record c)) (condition_held h) ∙ comparison_laid m.condition _ last c few in
      record {
        told = conditioned_held _ _ held;
        fits = (omega (arith, size_held h, some), size_small h, omega (arith, comparisons_held h, few));
      }

  -- ---- the entry of each command
  pub added_is : (s : List ℕ) (at : ℕ) (c : Command) → follows st c ≡ true → has_room st c ≡ true
      → declared ts m (entry_at c s at) ≡ true → is_new m (entry_at c s at) ≡ true → Added r st (entry_at c s at)
  added_is s at NextTable o f d n = added_table f
  added_is s at NextColumn o f d n = added_column _ (some_tables o) f
  added_is s at ExtractBegins o f d n = record { told = h.laid; fits = tt }
  added_is s at QueryBegins o f d n = record { told = h.laid; fits = tt }
  added_is s at TableUsed o f d n = added_used _ d n
  added_is s at OutputColumn o f d n = added_output _ d (not-true _ n)
  added_is s at NextClause o f d n = added_clause f
  added_is s at NumberCompared o f d n = added_comparison o f _ _ _
  added_is s at ColumnCompared o f d n = added_comparison o f _ _ _
  added_is s at End o f d n = record { told = h.laid; fits = tt }
