-- Words put into memory one after the other are put at once. Assumes nothing.
use Rattle.std.proofs.Common.{◌≡◌, ℕ, ◌+◌, ◌*◌, ◌≤◌, List, [], ◌∷◌, ◌++◌, length, take, drop, sym, refl, ap, ◌∙◌, subst, arith}
use Rattle.std.specs.List.{AllByRecursion}
use Rattle.std.proofs.lemmas.List.{append_assoc, drop_at, drop-drop, length-append, length-drop, length-take-le, take-append-drop, take_at}
use Rattle.std.proofs.lemmas.Grind.{flat_map-append}
use Rattle.words.specs.Bytes.{word_bytes, spelled}
use Rattle.words.specs.Layout.{FieldsFit, encoded}
use Rattle.words.specs.declared.word.Word.{Word}
use Rattle.monthfile.specs.File.{bytes_of}
use Rattle.monthwriter.specs.declared.placing.Output.{Output}
use Rattle.monthwriter.specs.Placing.{with_words, RoomFor, WordsPut}

all_parts : {X : Type 0} (P : X → Type 0) (xs ys : List X) → AllByRecursion P (xs ++ ys) → AllByRecursion P xs × AllByRecursion P ys
all_parts P [] ys all = (tt, all)
all_parts P (x ∷ xs) ys all = let rest = all_parts P xs ys all.1 in ((all.0, rest.0), rest.1)

pub length-bytes : (ws : List Word) → length (bytes_of ws) ≡ word_bytes * length ws
length-bytes [] = refl
length-bytes (w ∷ ws) = omega (arith, length-bytes ws)

-- the memory with words, in two parts
split : (start : ℕ) (ws : List Word) (out : List ℕ) → with_words start ws out ≡ (take start out ++ bytes_of ws) ++ drop (start + word_bytes * length ws) out
unfolding with_words
split start ws out = sym (append_assoc (take start out) (bytes_of ws) (drop (start + word_bytes * length ws) out))

length_front : (start : ℕ) (ws : List Word) (out : List ℕ) → start ≤ length out → length (take start out ++ bytes_of ws) ≡ start + word_bytes * length ws
length_front start ws out within =
    length-append (take start out) (bytes_of ws) ∙ omega (arith, length-take-le start out within, length-bytes ws)

pub length-with : (start : ℕ) (ws : List Word) (out : List ℕ) → start + word_bytes * length ws ≤ length out → length (with_words start ws out) ≡ length out
length-with start ws out long =
    let n : ℕ = start + word_bytes * length ws in
    ap length (split start ws out) ∙ length-append (take start out ++ bytes_of ws) (drop n out)
    ∙ omega (arith, length_front start ws out (omega arith), length-drop n out)

with_then : (start : ℕ) (ws vs : List Word) (out : List ℕ) → start + word_bytes * length ws ≤ length out
    → with_words (start + word_bytes * length ws) vs (with_words start ws out) ≡ with_words start (ws ++ vs) out
unfolding with_words
with_then start ws vs out long =
    let n : ℕ = start + word_bytes * length ws in
    let m : ℕ = word_bytes * length vs in
    let front : List ℕ = take start out ++ bytes_of ws in
    let middle : List ℕ = with_words start ws out in
    let parts : middle ≡ front ++ drop n out = split start ws out in
    let size : length front ≡ n = length_front start ws out (omega arith) in
    let taken : take n middle ≡ front = ap (take n) parts ∙ take_at front (drop n out) n size in
    let dropped : drop (n + m) middle ≡ drop (n + m) out =
    sym (drop-drop m n middle) ∙ ap (λ l. drop m (drop n l)) parts ∙ ap (drop m) (drop_at front (drop n out) n size) ∙ drop-drop m n out in
    let place : n + m ≡ start + word_bytes * length (ws ++ vs) = omega (arith, length-append ws vs) in
    let rest : List ℕ = drop (start + word_bytes * length (ws ++ vs)) out in
    ap (λ l. l ++ (bytes_of vs ++ drop (n + m) middle)) taken
    ∙ ap (λ l. front ++ (bytes_of vs ++ l)) (dropped ∙ ap (λ k. drop k out) place)
    ∙ append_assoc (take start out) (bytes_of ws) (bytes_of vs ++ rest)
    ∙ ap (λ l. take start out ++ l) (sym (append_assoc (bytes_of ws) (bytes_of vs) rest))
    ∙ ap (λ l. take start out ++ (l ++ rest)) (sym (flat_map-append (λ word. spelled (encoded word)) ws vs))

with_none : (start : ℕ) (out : List ℕ) → with_words start [] out ≡ out
unfolding with_words
with_none start out = ap (λ k. take start out ++ drop k out) (omega arith) ∙ take-append-drop start out

-- room for words is room for the first of them
room_first : (out : Output) (ws vs : List Word) → RoomFor out (ws ++ vs) → RoomFor out ws
room_first out ws vs room = record {
  fits = (all_parts FieldsFit ws vs room.fits).0;
  long = omega (arith, room.long, length-append ws vs);
}

-- room is left for the others once the first are put
room_rest : (out : Output) (ws vs : List Word) (after : Output) → RoomFor out (ws ++ vs) → WordsPut out ws after → RoomFor after vs
room_rest out ws vs after room put =
    let size : length after.memory.now ≡ length out.memory.now =
    ap length put.memory ∙ length-with out.next ws out.memory.now (room_first out ws vs room).long in
    record {
      fits = (all_parts FieldsFit ws vs room.fits).1;
      long = omega (arith, room.long, put.place, length-append ws vs, size);
    }

-- words that are put, and others after them
pub put_then : {out : Output} {ws vs : List Word} {middle after : Output} → RoomFor out (ws ++ vs) → WordsPut out ws middle → WordsPut middle vs after
    → WordsPut out (ws ++ vs) after
put_then {out} {ws} {vs} {middle} room put more = record {
  same_reference = more.same_reference ∙ put.same_reference;
  place = omega (arith, more.place, put.place, length-append ws vs);
  memory =
      more.memory
      ∙ ap (λ k. with_words k vs middle.memory.now) put.place
      ∙ ap (with_words (out.next + word_bytes * length ws) vs) put.memory
      ∙ with_then out.next ws vs out.memory.now (room_first out ws vs room).long;
}

-- Putting is on its way: there is room for the words that are left, and once they are put, all words are.
pub record OnTheWay (start : Output) (all left : List Word) (out : Output) : Type 0 where
  pub room : RoomFor out left
  pub goes : (after : Output) → WordsPut out left after → WordsPut start all after

pub at_start : {start : Output} {all : List Word} → RoomFor start all → OnTheWay start all all start
at_start room = record { room = room; goes = λ after put. put }

module _ {start : Output} {all left : List Word} {out : Output} where
  -- there is room for the first of the words that are left
  pub room_now : (ws later : List Word) → OnTheWay start all left out → left ≡ ws ++ later → RoomFor out ws
  room_now ws later way parts = room_first out ws later (subst (RoomFor out) parts way.room)

  -- the first of them are put
  pub one_step : {ws later : List Word} {after : Output} → OnTheWay start all left out → left ≡ ws ++ later → WordsPut out ws after
      → OnTheWay start all later after
  one_step {ws} {later} {after} way parts put =
      let room : RoomFor out (ws ++ later) = subst (RoomFor out) parts way.room in
      record {
        room = room_rest out ws later after room put;
        goes = λ end more. way.goes end (subst (λ words. WordsPut out words end) (sym parts) (put_then room put more));
      }

  -- none is left
  pub at_end : OnTheWay start all left out → left ≡ [] → WordsPut start all out
  at_end way none =
      way.goes out
      (subst (λ words. WordsPut out words out) (sym none)
      (record { same_reference = refl; place = omega arith; memory = sym (with_none out.next out.memory.now) }))

-- words that are put in front
pub in_front : (ws : List Word) (before after : Output) → before.next ≡ 0 → WordsPut before ws after
    → (after.next ≡ length (bytes_of ws)) × (after.memory.now ≡ bytes_of ws ++ drop after.next before.memory.now)
    × (take after.next after.memory.now ≡ bytes_of ws)
unfolding with_words
in_front ws before after front put =
    let rest : List ℕ = drop after.next before.memory.now in
    let long : after.next ≡ length (bytes_of ws) = omega (arith, front, put.place, length-bytes ws) in
    let stands : after.memory.now ≡ bytes_of ws ++ rest =
    put.memory ∙ ap (λ k. with_words k ws before.memory.now) front ∙ ap (λ k. bytes_of ws ++ drop k before.memory.now) (omega (arith, front, put.place)) in
    (long, stands, ap (take after.next) stands ∙ take_at (bytes_of ws) rest after.next (sym long))
