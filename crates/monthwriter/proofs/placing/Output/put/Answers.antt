use Rattle.std.proofs.Common.{◌≡◌, ◌+◌, ◌-◌, ◌++◌, take, drop, refl, ap, ◌∙◌, arith}
use Rattle.std.proofs.lemmas.List.{drop-drop}
use Rattle.words.specs.Bytes.{word_bytes, spelled}
use Rattle.words.specs.Layout.{encoded}
use Rattle.monthwriter.specs.Placing.{with_words}
use Rattle.monthwriter.proofs.placing.Output.put.Goals as goal

pub returns : goal.returns
unfolding with_words
returns c =
    let at = c.args.self.now.next in
    let out = c.args.self.now.memory.now in
    record {
      same_reference = refl;
      place = omega arith;
      memory =
          let bits : c.unwrap-bits.result ≡ encoded c.args.word = grind arith in
          let bytes : c.copy_from_slice.new.self ≡ spelled (encoded c.args.word) = c.copy_from_slice.ensures.after ∙ c.to_be_bytes.ensures ∙ ap spelled bits in
          let rest : drop (at + word_bytes - at) (drop at out) ≡ drop (at + word_bytes) out = drop-drop (at + word_bytes - at) at out ∙ ap (λ k. drop k out) (omega arith) in
          ap (λ bs. take at out ++ (bs ++ drop (at + word_bytes - at) (drop at out))) bytes
          ∙ ap (λ bs. take at out ++ (spelled (encoded c.args.word) ++ bs)) rest;
    }
