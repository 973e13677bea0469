-- A block from which all words were given: the next one, or the end. Assumes nothing.
use Rattle.std.proofs.Common.{◌≡◌, ℕ, ◌+◌, ◌%◌, List, [], ◌++◌, length, drop, Some, None, Ok, Option, sym, refl, ap, subst, ◌∙◌, append-nil, inr, arith}
use Rattle.std.specs.Io.KnownBytes.{Consumes, Keeps, prepend_known}
use Rattle.std.specs.Option.{ForSome}
use Rattle.std.specs.declared.io.Read.{Ghosts as Input}
use Rattle.std.proofs.KnownBytes.{Keeps-refl, prepend_known-nil}
use Rattle.std.proofs.lemmas.Bool.{cond-false, ne_eqb}
use Rattle.std.proofs.lemmas.List.{nil_from_length}
use Rattle.std.proofs.lemmas.Option.{same_Some}
use Rattle.words.specs.Bytes.{left_over, spelled, word_bytes, words_of}
use Rattle.words.proofs.Spelling.{length-left_over, length-words}
use Rattle.input.specs.Blocks.{BlockRead, NoneLeft, block_of, unread}
use Rattle.input.specs.FileWords.{Ended, FirstGiven, NextGiven, to_come, to_give}
use Rattle.input.specs.Limits.{block_bytes}
use Rattle.input.specs.declared.blocks.Blocks.{Blocks}
use Rattle.input.specs.declared.blocks.Progress.TheVariants.{AtEnd, Reading}
use Rattle.input.specs.declared.file_words.FileWords.{FileWords}

-- bytes that were read are still to come
pub read_ahead : (before after : Option (List ℕ)) (bytes : List ℕ) → Consumes before after bytes → Keeps before (prepend_known bytes after)
read_ahead None after bytes read = tt
read_ahead (Some xs) None bytes read = absurd read
read_ahead (Some xs) (Some ys) bytes read = sym read

pub kept_then : (before middle after : Option (List ℕ)) (bytes : List ℕ) → Keeps before middle → Consumes middle after bytes → Consumes before after bytes
kept_then None middle after bytes kept next = tt
kept_then (Some xs) None after bytes kept next = absurd kept
kept_then (Some xs) (Some ys) None bytes kept next = absurd next
kept_then (Some xs) (Some ys) (Some zs) bytes kept next = sym kept ∙ next

-- where nothing is unread, these bytes are still to come
pub last_bytes : (before unread : Option (List ℕ)) (bytes : List ℕ) (n : ℕ) →
    Keeps before (prepend_known bytes unread) →
    ForSome unread (λ rest. rest ≡ []) →
    length bytes ≡ n →
    ForSome before (λ all. length all ≡ n)
last_bytes None unread bytes n kept none long all e = cc
last_bytes (Some xs) None bytes n kept none long all e = absurd kept
last_bytes (Some xs) (Some ys) bytes n kept none long all e =
    ap length (sym (same_Some xs all e) ∙ sym kept ∙ ap (λ rest. bytes ++ rest) (none ys refl) ∙ append-nil bytes) ∙ long

-- bytes that make no word are left over
pub all_over : (bytes block : List ℕ) → words_of bytes ≡ [] → left_over bytes ≡ left_over block → length bytes ≡ length block % word_bytes
all_over bytes block none same =
    omega (arith, length-words bytes, length-left_over bytes, length-left_over block, ap length none, ap length same)

-- the next block, where the one before is done, has the bytes that are still to come
next_block : (left block next : List ℕ) (before after : Option (List ℕ)) →
    words_of left ≡ [] →
    left_over left ≡ left_over block →
    length block % word_bytes ≡ 0 →
    Consumes before after next →
    Keeps (prepend_known left before) (prepend_known next after)
next_block left block next before after none same whole read =
    let done : left ≡ [] = nil_from_length left (all_over left block none same ∙ whole) in
    subst (λ bs. Keeps (prepend_known bs before) (prepend_known next after)) (sym done)
    (subst (λ o. Keeps o (prepend_known next after)) (sym (prepend_known-nil before)) (read_ahead before after next read))

module _ {R : Type 0} {input : Input R} (before : FileWords R input) (none : to_give before ≡ []) where
  abbrev left : List ℕ
  left = drop before.given (block_of before.blocks)

  -- no block is left
  pub ended : (after : FileWords R input) →
      NoneLeft before.blocks after.blocks →
      after.given ≡ before.given →
      after.number ≡ before.number →
      Ended before after
  ended after end given number = record {
    done = none;
    empty =
        ap (λ k. words_of (drop k (block_of after.blocks))) given
        ∙ ap (λ (b : Blocks R input). words_of (drop before.given (block_of b))) end.stays
        ∙ none;
    unfailed = λ failed. cc;
    last = ap (λ (b : Blocks R input). b.progress) end.stays ∙ end.done;
    stays = number;
    rest =
        last_bytes (to_come before) (unread before.blocks) left _ (Keeps-refl (to_come before)) end.end
        (all_over left (block_of before.blocks) none before.whole ∙ ap (λ (b : Blocks R input). length (block_of b) % word_bytes) (sym end.stays));
  }

  -- the next block is read, and none of it was given yet
  module _ (then : FileWords R input) (read : BlockRead before.blocks then.blocks) (fresh : then.given ≡ 0) (number : then.number ≡ before.number) where
    from_start : to_give then ≡ words_of (block_of then.blocks)
    from_start = ap (λ k. words_of (drop k (block_of then.blocks))) fresh

    still_to_come : Keeps (to_come before) (to_come then)
    still_to_come =
        subst (λ k. Keeps (to_come before) (prepend_known (drop k (block_of then.blocks)) (unread then.blocks))) (sym fresh)
        (next_block left (block_of before.blocks) (block_of then.blocks) (unread before.blocks) (unread then.blocks) none before.whole
        (ap (λ n. n % word_bytes) (sym before.blocks.bytes.ok.0) ∙ before.blocks.whole read.reads) read.bytes)

    short_last : words_of (block_of then.blocks) ≡ [] → then.blocks.progress ≡ AtEnd
    short_last empty =
        read.then
        ∙ cond-false _ Reading AtEnd
        (ne_eqb (length (block_of then.blocks)) block_bytes (λ full. omega (arith, full, length-words (block_of then.blocks), ap length empty)))

    pub next_word : (result : Option (ℕ × ℕ)) (after : FileWords R input) →
        FirstGiven then result after →
        after.blocks ≡ then.blocks →
        NextGiven {E = Unit {0}} before (Ok result) after
    next_word None after (nothing, stays) same =
        let empty : words_of (block_of then.blocks) ≡ [] = sym from_start ∙ nothing in
        let last : then.blocks.progress ≡ AtEnd = short_last empty in
        record {
          done = none;
          empty = ap (λ (f : FileWords R input). to_give f) stays ∙ nothing;
          unfailed = λ failed. cc;
          last = ap (λ (b : Blocks R input). b.progress) same ∙ last;
          stays = ap (λ (f : FileWords R input). f.number) stays ∙ number;
          rest =
              last_bytes (to_come before) (unread then.blocks) (block_of then.blocks) _
              (subst (λ k. Keeps (to_come before) (prepend_known (drop k (block_of then.blocks)) (unread then.blocks))) fresh still_to_come)
              (then.blocks.ended last)
              (omega (arith, length-words (block_of then.blocks), ap length empty)
              ∙ ap (λ (b : Blocks R input). length (block_of b) % word_bytes) (sym same));
        }
    next_word (Some entry) after (given, bytes, fits) same = record {
      next =
          inr (
            none,
            read.reads,
            record {
              number = given.number ∙ number;
              counts = given.counts ∙ ap (λ n. n + 1) number;
              word = ap (λ (b : Blocks R input). words_of (block_of b)) same ∙ sym from_start ∙ given.word;
            },
          );
      bytes = kept_then (to_come before) (to_come then) (to_come after) (spelled entry.1) still_to_come bytes;
      fits = fits;
    }
