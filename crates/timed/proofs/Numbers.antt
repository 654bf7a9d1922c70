-- The numbers that stand for what reading and deciding answer. Assumes nothing.
use mathlib.Core.Path.{◌≡◌, sym, ap, ◌∙◌}
use mathlib.Core.List.{List}
use Prim.Native.Nat.{ℕ}
use Rattle.std.specs.Prelude.{Result, Ok, Err}
use Rattle.job.specs.declared.Job.{Job}
use Rattle.layout.specs.declared.Refusal.{Refusal}
use Rattle.layout.specs.Reading.{read_of}
use Rattle.reader.specs.Answers.{decoded_of}
use Rattle.pobghine.specs.Deciding.{decision_of}
use Rattle.timed.specs.Call.{if_whole, kind_or_255, read_number, kind_number}

module _ (s : List ℕ) {d : Result Job Refusal} (is : d ≡ decoded_of (read_of s)) where
  pub whole_read : {r : Job} → d ≡ Ok r → 0 ≡ read_number s
  whole_read w = ap (λ x. if_whole x (λ r. 0)) (sym w ∙ is)

  module _ {f : Refusal} (w : d ≡ Err f) where
    pub refused_read : 255 ≡ read_number s
    refused_read = ap (λ x. if_whole x (λ r. 0)) (sym w ∙ is)

    pub refused_decided : 255 ≡ kind_number s
    refused_decided = ap (λ x. if_whole x (λ r. kind_or_255 (decision_of r))) (sym w ∙ is)

  -- a is what deciding answers
  module _ {r : Job} (w : d ≡ Ok r) {a : Result ℕ Refusal} (told : a ≡ decision_of r) where
    pub number_decided : kind_or_255 a ≡ kind_number s
    number_decided = ap kind_or_255 told ∙ ap (λ x. if_whole x (λ r. kind_or_255 (decision_of r))) (sym w ∙ is)
