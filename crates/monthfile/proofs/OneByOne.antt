-- Reading word by word, and block by block. Assumes nothing.
use Rattle.std.proofs.Common.{◌≡◌, ℕ, ◌+◌, ◌≤◌, Bool, true, false, cond, List, [], ◌∷◌, ◌++◌, length, is_some, Some, None, Ok, Err, Option, sym, refl, ap, ◌∙◌, subst, append_assoc, arith, length-append}
use Rattle.std.specs.List.{flat_map}
use Rattle.std.proofs.lemmas.Bool.{false≢true}
use Rattle.std.proofs.lemmas.List.{append-nil}
use Rattle.plan.specs.declared.booking.Booking.{Booking}
use Rattle.words.specs.Bytes.{last_number, number_at, words_of}
use Rattle.words.specs.Windows.{Advanced}
use Rattle.words.specs.declared.window.Window.{Window}
use Rattle.words.proofs.Numbering.{shown}
use Rattle.words.proofs.Spelling.{words_append}
use Rattle.words.specs.declared.word.Word.{Word}
use Rattle.monthfile.specs.declared.brought.Brought.{Brought}
use Rattle.monthfile.specs.declared.brought.Brought.TheVariants.{Nothing, Opening, Offtake}
use Rattle.monthfile.specs.declared.fault.ReadFault.{ReadFault}
use Rattle.monthfile.specs.declared.telling.Told.{Told}
use Rattle.monthfile.specs.Faults.{told, blamed, Stepped}
use Rattle.monthfile.specs.Judging.{Standing, Verdict, Faulty, Taken, judge}
use Rattle.monthfile.specs.Reading.{Reading, reading, gone_on, preceded, ended, booking_of, followed, joined, reading_blocks, WholeWords, BlockByBlock, ReadTo, BlockRead, AllDecoded}

pub some≢none : {X : Type 0} {x : X} → Some x ≡ None → ⊥
some≢none e = let z : ◌≡◌ {A = ℕ} 0 1 = cc in omega arith

-- what a word brought comes before the bookings of both readings
preceded-followed : (brought : Brought) (first second : Reading) → preceded brought (followed first second) ≡ followed (preceded brought first) second
preceded-followed brought first second = go (is_some first.fault)
  where
    go : (faulty : Bool)
        → preceded brought (cond faulty first (record { bookings = first.bookings ++ second.bookings; fault = second.fault; standing = second.standing }))
        ≡ cond faulty (preceded brought first)
        (record { bookings = (booking_of brought ++ first.bookings) ++ second.bookings; fault = second.fault; standing = second.standing })
    go true = refl
    go false =
        ap (λ bs. record { bookings = bs; fault = second.fault; standing = second.standing })
        (sym (append_assoc (booking_of brought) first.bookings second.bookings))

-- words in two parts
read_in_two : (before : Standing) (place : ℕ) (first second : List (Option Word)) → place ≤ last_number
    → reading before place (first ++ second)
    ≡ followed (reading before place first) (reading (reading before place first).standing (number_at place (length first)) second)
read_in_two before place [] second small = ap (λ k. reading before k second) (omega arith)
read_in_two before place (None ∷ first) second small = refl
read_in_two before place (Some word ∷ first) second small =
    go (λ after. read_in_two after (number_at place 1) first second (omega arith)) (judge before word)
  where
    go : ((after : Standing)
        → reading after (number_at place 1) (first ++ second)
        ≡ followed (reading after (number_at place 1) first) (reading (reading after (number_at place 1) first).standing (number_at (number_at place 1) (length first)) second))
        → (v : Verdict)
        → gone_on before place v (λ st. reading st (number_at place 1) (first ++ second))
        ≡ followed (gone_on before place v (λ st. reading st (number_at place 1) first))
        (reading (gone_on before place v (λ st. reading st (number_at place 1) first)).standing (number_at place (length (Some word ∷ first))) second)
    go later (Faulty layer number) = refl
    go later (Taken after brought) =
        let r : Reading = reading after (number_at place 1) first in
        let k : number_at (number_at place 1) (length first) ≡ number_at place (length (Some word ∷ first)) = omega arith in
        ap (preceded brought) (later after) ∙ preceded-followed brought r (reading r.standing (number_at (number_at place 1) (length first)) second)
        ∙ ap (λ n. followed (preceded brought r) (reading r.standing n second)) k

-- where the first part has no fault, the rest is read on
pub read_after : (before : Standing) (place : ℕ) (first second : List (Option Word)) → place ≤ last_number → (reading before place first).fault ≡ None
    → reading before place (first ++ second)
    ≡ record {
      bookings = (reading before place first).bookings ++ (reading (reading before place first).standing (number_at place (length first)) second).bookings;
      fault = (reading (reading before place first).standing (number_at place (length first)) second).fault;
      standing = (reading (reading before place first).standing (number_at place (length first)) second).standing;
    }
read_after before place first second small clean =
    let r : Reading = reading before place first in
    let s : Reading = reading r.standing (number_at place (length first)) second in
    read_in_two before place first second small
    ∙ ap (λ o. cond (is_some o) r (record { bookings = r.bookings ++ s.bookings; fault = s.fault; standing = s.standing })) clean

words_in_blocks : (blocks : List (List ℕ)) → WholeWords blocks → words_of (joined blocks) ≡ flat_map words_of blocks
words_in_blocks [] whole = refl
words_in_blocks (block ∷ []) whole = ap words_of (append-nil block) ∙ sym (append-nil (words_of block))
words_in_blocks (block ∷ next ∷ blocks) whole =
    words_append block (joined (next ∷ blocks)) whole.0
    ∙ ap (λ ws. words_of block ++ ws) (words_in_blocks (next ∷ blocks) whole.1)

read_in_blocks : (before : Standing) (place : ℕ) (blocks : List (List (Option Word))) → place ≤ last_number
    → reading before place (joined blocks) ≡ reading_blocks before place blocks
read_in_blocks before place [] small = refl
read_in_blocks before place (block ∷ blocks) small =
    read_in_two before place block (joined blocks) small
    ∙ ap (followed (reading before place block))
    (read_in_blocks (reading before place block).standing (number_at place (length block)) blocks (omega arith))

pub block_by_block : BlockByBlock
block_by_block = record { words = words_in_blocks; read = read_in_blocks }

-- stopped for want of memory before the first word
pub nothing_read : (before : Standing) (place : ℕ) (bits : List ℕ) (bs : List Booking) (fault : ReadFault) → told fault ≡ None
    → BlockRead before place bits bs (Err fault) bs before
nothing_read before place bits bs fault none = record {
  front = [];
  rest = bits;
  split = refl;
  words = [];
  decoded = tt;
  left = record { faulty = sym none; booked = sym (append-nil bs); stands = refl };
  whole = λ e. absurd (false≢true e);
}

-- a word that is not taken
pub faulty_read : (before : Standing) (place bits : ℕ) (bs : List Booking) (fault : ReadFault) (after : Standing) → Stepped before place bits (Err fault) after
    → BlockRead before place (bits ∷ []) bs (Err fault) bs after
faulty_read before place bits bs fault after (None, decoded, (tells, same)) = record {
  front = bits ∷ [];
  rest = [];
  split = refl;
  words = None ∷ [];
  decoded = (decoded, tt);
  left = record { faulty = sym tells; booked = sym (append-nil bs); stands = same };
  whole = λ e. absurd (false≢true e);
}
faulty_read before place bits bs fault after (Some word, decoded, (tells, same)) = go (judge before word) refl
  where
    go : (v : Verdict) → judge before word ≡ v → BlockRead before place (bits ∷ []) bs (Err fault) bs after
    go (Faulty layer number) e = record {
      front = bits ∷ [];
      rest = [];
      split = refl;
      words = Some word ∷ [];
      decoded = (decoded, tt);
      left =
          let r : reading before place (Some word ∷ []) ≡ ended before (Some (record { layer = layer; number = number; place = place })) =
          ap (λ v. gone_on before place v (λ st. reading st (number_at place 1) [])) e in
          record {
            faulty = ap (λ x. x.fault) r ∙ sym (tells ∙ ap (blamed place) e);
            booked = sym (append-nil bs) ∙ ap (λ x. bs ++ x.bookings) (sym r);
            stands = same ∙ ap (λ x. x.standing) (sym r);
          };
      whole = λ x. absurd (false≢true x);
    }
    go (Taken st brought) e =
        subst (λ st. BlockRead before place (bits ∷ []) bs (Err fault) bs st) (sym same)
        (nothing_read before place (bits ∷ []) bs fault (tells ∙ ap (blamed place) e))

-- a word that is taken, with its booking at the end of the list
unfoldable pub taken_read : (before : Standing) (place bits : ℕ) (bs more : List Booking) (brought : Brought) (after : Standing) → Stepped before place bits (Ok brought) after
    → more ≡ bs ++ booking_of brought → BlockRead before place (bits ∷ []) bs (Ok tt) more after
taken_read before place bits bs more brought after (None, decoded, never) pushed = absurd never
taken_read before place bits bs more brought after (Some word, decoded, is) pushed = record {
  front = bits ∷ [];
  rest = [];
  split = refl;
  words = Some word ∷ [];
  decoded = (decoded, tt);
  left =
      let r : reading before place (Some word ∷ []) ≡ preceded brought (ended after None) =
      ap (λ v. gone_on before place v (λ st. reading st (number_at place 1) [])) is in
      record {
        faulty = ap (λ x. x.fault) r;
        booked = pushed ∙ ap (λ x. bs ++ x) (sym (append-nil (booking_of brought))) ∙ ap (λ x. bs ++ x.bookings) (sym r);
        stands = ap (λ x. x.standing) (sym r);
      };
  whole = λ _. refl;
}

pub no_booking : (brought : Brought) → ((b : Booking) → brought ≡ Offtake b → ⊥) → booking_of brought ≡ []
no_booking Nothing none = refl
no_booking Opening none = refl
no_booking (Offtake b) none = absurd (none b refl)

-- what has been read of a block whose other words are these
pub record SoFar (before : Standing) (place : ℕ) (bits : List ℕ) (earlier : List Booking) (others : List ℕ) (number : ℕ) (bookings : List Booking) (after : Standing) : Type 0 where
  pub front : List ℕ
  pub split : bits ≡ front ++ others
  pub words : List (Option Word)
  pub decoded : AllDecoded front words
  pub left : ReadTo before place words earlier None bookings after
  pub counted : number ≡ number_at place (length words)

unfoldable pub none_yet : (before : Standing) (place : ℕ) (bits : List ℕ) (earlier : List Booking) → place ≤ last_number
    → SoFar before place bits earlier bits place earlier before
none_yet before place bits earlier small = record {
  front = [];
  split = refl;
  words = [];
  decoded = tt;
  left = record { faulty = refl; booked = sym (append-nil earlier); stands = refl };
  counted = omega arith;
}

pub decoded-append : (front back : List ℕ) (words more : List (Option Word)) → AllDecoded front words → AllDecoded back more → AllDecoded (front ++ back) (words ++ more)
decoded-append [] back [] more h k = k
decoded-append [] back (w ∷ words) more h k = absurd h
decoded-append (n ∷ front) back [] more h k = absurd h
decoded-append (n ∷ front) back (w ∷ words) more h k = (h.0, decoded-append front back words more h.1 k)

-- reading on from there
pub read_on : (before : Standing) (place : ℕ) (earlier : List Booking) (words more : List (Option Word)) (number : ℕ) (fault : Option Told)
    (bookings later : List Booking) (after end : Standing) → place ≤ last_number → number ≡ number_at place (length words)
    → ReadTo before place words earlier None bookings after → ReadTo after number more bookings fault later end
    → ReadTo before place (words ++ more) earlier fault later end
read_on before place earlier words more number fault bookings later after end small counted first second =
    let whole = read_after before place words more small first.faulty in
    let r : Reading = reading before place words in
    let same : reading after number more ≡ reading r.standing (number_at place (length words)) more =
    ap (λ st. reading st number more) first.stands ∙ ap (λ n. reading r.standing n more) counted in
    record {
      faulty = ap (λ x. x.fault) whole ∙ ap (λ x. x.fault) (sym same) ∙ second.faulty;
      booked =
          second.booked ∙ ap (λ bs. bs ++ (reading after number more).bookings) first.booked
          ∙ append_assoc earlier r.bookings (reading after number more).bookings
          ∙ ap (λ x. earlier ++ (r.bookings ++ x.bookings)) same ∙ ap (λ x. earlier ++ x.bookings) (sym whole);
      stands = second.stands ∙ ap (λ x. x.standing) same ∙ ap (λ x. x.standing) (sym whole);
    }

pub length-decoded : (ns : List ℕ) (ws : List (Option Word)) → AllDecoded ns ws → length ws ≡ length ns
length-decoded [] [] h = refl
length-decoded [] (w ∷ ws) h = absurd h
length-decoded (n ∷ ns) [] h = absurd h
length-decoded (n ∷ ns) (w ∷ ws) h = omega (arith, length-decoded ns ws h.1)

module _ (before : Standing) (place : ℕ) (all : List ℕ) (earlier : List Booking) (small : place ≤ last_number) where
  -- one word more
  unfoldable pub one_more : (bits : ℕ) (others : List ℕ) (number next : ℕ) (bookings later : List Booking) (after end : Standing)
      → SoFar before place all earlier (bits ∷ others) number bookings after → BlockRead after number (bits ∷ []) bookings (Ok tt) later end
      → next ≡ number_at number 1 → SoFar before place all earlier others next later end
  one_more bits others number next bookings later after end so_far one counts =
      let ends : one.front ≡ bits ∷ [] = sym (append-nil one.front) ∙ ap (λ r. one.front ++ r) (sym (one.whole refl)) ∙ sym one.split in
      let single : AllDecoded (bits ∷ []) one.words = subst (λ f. AllDecoded f one.words) ends one.decoded in
      let many : length (so_far.words ++ one.words) ≡ length so_far.words + 1 =
      length-append so_far.words one.words ∙ ap (λ n. length so_far.words + n) (length-decoded (bits ∷ []) one.words single) in
      record {
        front = so_far.front ++ bits ∷ [];
        split = so_far.split ∙ sym (append_assoc so_far.front (bits ∷ []) others);
        words = so_far.words ++ one.words;
        decoded = decoded-append so_far.front (bits ∷ []) so_far.words one.words so_far.decoded single;
        left = read_on before place earlier so_far.words one.words number None bookings later after end small so_far.counted so_far.left one.left;
        counted = counts ∙ ap (λ n. number_at n 1) so_far.counted ∙ omega (arith, many);
      }

  -- stopped at this word
  unfoldable pub stopped : (bits : ℕ) (others : List ℕ) (number : ℕ) (bookings later : List Booking) (after end : Standing) (fault : ReadFault)
      → SoFar before place all earlier (bits ∷ others) number bookings after → BlockRead after number (bits ∷ []) bookings (Err fault) later end
      → BlockRead before place all earlier (Err fault) later end
  stopped bits others number bookings later after end fault so_far one = record {
    front = so_far.front ++ one.front;
    rest = one.rest ++ others;
    split =
        so_far.split ∙ ap (λ x. so_far.front ++ (x ++ others)) one.split
        ∙ ap (λ x. so_far.front ++ x) (append_assoc one.front one.rest others)
        ∙ sym (append_assoc so_far.front one.front (one.rest ++ others));
    words = so_far.words ++ one.words;
    decoded = decoded-append so_far.front one.front so_far.words one.words so_far.decoded one.decoded;
    left = read_on before place earlier so_far.words one.words number (told fault) bookings later after end small so_far.counted so_far.left one.left;
    whole = λ e. absurd (false≢true e);
  }

  -- read to the end
  unfoldable pub all_read : (number : ℕ) (others : List ℕ) (bookings : List Booking) (after : Standing) → SoFar before place all earlier others number bookings after → others ≡ []
      → BlockRead before place all earlier (Ok tt) bookings after
  all_read number others bookings after so_far none = record {
    front = so_far.front;
    rest = [];
    split = so_far.split ∙ ap (λ x. so_far.front ++ x) none;
    words = so_far.words;
    decoded = so_far.decoded;
    left = so_far.left;
    whole = λ _. refl;
  }

  -- one word more, as a window shows it
  pub shown_more : (window left : Window) (number bits : ℕ) (bookings later : List Booking) (after end : Standing) → Advanced window (number, bits) left
      → SoFar before place all earlier (words_of window.rest.now) window.number bookings after → BlockRead after number (bits ∷ []) bookings (Ok tt) later end
      → SoFar before place all earlier (words_of left.rest.now) left.number later end
  shown_more window left number bits bookings later after end step so_far one =
      let next = shown window.number left.number (words_of window.rest.now) (words_of left.rest.now) number bits step.shows in
      one_more bits (words_of left.rest.now) window.number left.number bookings later after end
      (subst (λ ws. SoFar before place all earlier ws window.number bookings after) next.0 so_far)
      (subst (λ n. BlockRead after n (bits ∷ []) bookings (Ok tt) later end) next.1 one) step.counts

  -- stopped at the word that a window shows
  pub shown_stopped : (window left : Window) (number bits : ℕ) (bookings later : List Booking) (after end : Standing) (fault : ReadFault) → Advanced window (number, bits) left
      → SoFar before place all earlier (words_of window.rest.now) window.number bookings after → BlockRead after number (bits ∷ []) bookings (Err fault) later end
      → BlockRead before place all earlier (Err fault) later end
  shown_stopped window left number bits bookings later after end fault step so_far one =
      let next = shown window.number left.number (words_of window.rest.now) (words_of left.rest.now) number bits step.shows in
      stopped bits (words_of left.rest.now) window.number bookings later after end fault
      (subst (λ ws. SoFar before place all earlier ws window.number bookings after) next.0 so_far)
      (subst (λ n. BlockRead after n (bits ∷ []) bookings (Err fault) later end) next.1 one)
