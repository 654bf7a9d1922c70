-- `base::Output::put_all` meets its contract: bytes copied to a place are a run of stores. Assumes nothing.
use mathlib.Core.Path.{refl, sym, ◌∙◌}
use native.Mathlib.Omega.{arith}
use lib.Seq.{sets-eq, take-length}
use Rattle.std.proofs.lemmas.Slice.{put_mid-paste}
use borrow.Author.Rules.{rules}
use Rattle.base.proofs.Output.put_all.Goals as goal

pub returns : goal.returns
returns c =
    let out = c.args.self.now in
    let bytes = c.args.bytes.now in
    record {
      same = refl;
      next = refl;
      within = search rules;
      list =
          put_mid-paste out.at _ out.bytes.now _ bytes _ c.copy_from_slice.ensures.after (omega arith) refl
          ∙ rw (take-length bytes) (sym (sets-eq bytes out.bytes.now out.at c.requires.room));
    }
