-- From what numbers of one kind are answered with to what the calculator answers. Assumes nothing.
use Rattle.std.proofs.Common.{◌≡◌, ℕ, ◌-◌, ◌<◌, List, [], ◌∷◌, map, length, get_or, take, drop, Ok, Err, string_bytes, codes, Result, String, sym, refl, ap, ◌∙◌, subst, arith}
use Rattle.std.specs.List.{range_with_len}
use Rattle.std.proofs.lemmas.List.FromFn.{fill_by_all}
use Rattle.std.proofs.lemmas.Slice.{first_rest}
use Rattle.apportion.specs.Cutting.{greatest_total, most_weights, refusal}
use Rattle.apportion.specs.LargestRemainder.{largest_remainder}
use Rattle.apportion.specs.RunningCut.{running_cut}
use Rattle.calculator.specs.Replies.{WriteAll}
use Rattle.calculator.specs.Requests.{Request, Largest, Running, Total, Fee, Named, Asks, AnsweredBy, Replies, refusal_of, result_of, total_asked, fee_asked}
use Rattle.calculator.specs.declared.fault.RequestFault.{RequestFault}
use Rattle.calculator.specs.declared.fault.RequestFault.TheVariants.{BadUsage, Cut, Plan, Tariff, Memory}

module _ {A : Type 0} (Made : Request → Type 0) where
  -- one request can have been made, and was where so many numbers were given
  answered : (Asked : Type 0) (request : Request) → (Asked → Made request) → ((Asked → ⊥) → (other : Request) → Made other → ⊥)
      → (answer : Result (String A) RequestFault) → Replies Asked (refusal_of request) (result_of request) answer → AnsweredBy Made answer
  answered Asked request made none (Ok line) h = (request, made h.0, h.1)
  answered Asked request made none (Err BadUsage) h = none h
  answered Asked request made none (Err Memory) h = tt
  answered Asked request made none (Err (Cut fault)) h = (request, made h.0, h.1)
  answered Asked request made none (Err (Plan fault)) h = (request, made h.0, h.1)
  answered Asked request made none (Err (Tariff fault)) h = (request, made h.0, h.1)

  -- the same requests were made in other words
  same_answer : (Asked : Request → Type 0) → ((request : Request) → Made request → Asked request) → ((request : Request) → Asked request → Made request)
      → (answer : Result (String A) RequestFault) → AnsweredBy Made answer → AnsweredBy Asked answer
  same_answer Asked to from (Ok line) h = (h.0, to h.0 h.1, h.2)
  same_answer Asked to from (Err BadUsage) h = λ request asked. h request (from request asked)
  same_answer Asked to from (Err Memory) h = tt
  same_answer Asked to from (Err (Cut fault)) h = (h.0, to h.0 h.1, h.2)
  same_answer Asked to from (Err (Plan fault)) h = (h.0, to h.0 h.1, h.2)
  same_answer Asked to from (Err (Tariff fault)) h = (h.0, to h.0 h.1, h.2)

-- names of requests are told apart by their first letters
abbrev head : List ℕ → ℕ
head name = get_or name 0 0

-- a name has the requests of its kind only
other_name : (name a b : List ℕ) → name ≡ a → name ≡ b → (head a ≡ head b → ⊥) → ⊥
other_name name a b e f apart = apart (ap head (sym e ∙ f))

no_largest : (name numbers : List ℕ) → name ≡ codes "largest" → (1 < length numbers → ⊥) → (request : Request) → Named name numbers request → ⊥
no_largest name numbers e none (Largest total weights) h = none (omega (arith, ap length h.1))
no_largest name numbers e none (Running total weights) h = other_name name _ _ e h.0 (λ z. omega arith)
no_largest name numbers e none (Total peak factor) h = other_name name _ _ e h.0 (λ z. omega arith)
no_largest name numbers e none (Fee p service tariff capacity) h = other_name name _ _ e h.0 (λ z. omega arith)

no_running : (name numbers : List ℕ) → name ≡ codes "running" → (1 < length numbers → ⊥) → (request : Request) → Named name numbers request → ⊥
no_running name numbers e none (Largest total weights) h = other_name name _ _ e h.0 (λ z. omega arith)
no_running name numbers e none (Running total weights) h = none (omega (arith, ap length h.1))
no_running name numbers e none (Total peak factor) h = other_name name _ _ e h.0 (λ z. omega arith)
no_running name numbers e none (Fee p service tariff capacity) h = other_name name _ _ e h.0 (λ z. omega arith)

no_total : (name numbers : List ℕ) → name ≡ codes "total" → (length numbers ≡ 2 → ⊥) → (request : Request) → Named name numbers request → ⊥
no_total name numbers e none (Largest total weights) h = other_name name _ _ e h.0 (λ z. omega arith)
no_total name numbers e none (Running total weights) h = other_name name _ _ e h.0 (λ z. omega arith)
no_total name numbers e none (Total peak factor) h = none (ap length h.1)
no_total name numbers e none (Fee p service tariff capacity) h = other_name name _ _ e h.0 (λ z. omega arith)

no_fee : (name numbers : List ℕ) → name ≡ codes "fee" → (length numbers ≡ 6 → ⊥) → (request : Request) → Named name numbers request → ⊥
no_fee name numbers e none (Largest total weights) h = other_name name _ _ e h.0 (λ z. omega arith)
no_fee name numbers e none (Running total weights) h = other_name name _ _ e h.0 (λ z. omega arith)
no_fee name numbers e none (Total peak factor) h = other_name name _ _ e h.0 (λ z. omega arith)
no_fee name numbers e none (Fee p service tariff capacity) h = none (ap length h.1)

-- a list of so many numbers, number by number
counted : (numbers : List ℕ) (n : ℕ) → length numbers ≡ n → numbers ≡ map (λ k. get_or numbers k 0) (range_with_len 0 n)
counted numbers n e = fill_by_all (λ k. get_or numbers k 0) numbers n 0 e (λ k h. refl)

-- a total and at least one weight
parted : (numbers : List ℕ) → 1 < length numbers → (numbers ≡ get_or numbers 0 0 ∷ drop 1 numbers) × (0 < length (drop 1 numbers))
parted [] h = absurd (omega arith)
parted (total ∷ weights) h = (refl, omega arith)

module _ {A : Type 0} (name numbers : List ℕ) where
  pub by_largest : name ≡ codes "largest" → (answer : Result (String A) RequestFault)
      → Replies (1 < length numbers) (refusal greatest_total (get_or numbers 0 0) (drop 1 numbers) most_weights) (largest_remainder (get_or numbers 0 0) (drop 1 numbers)) answer
      → AnsweredBy (Named name numbers) answer
  by_largest e =
      answered (Named name numbers) (1 < length numbers) (Largest (get_or numbers 0 0) (drop 1 numbers)) (λ h. let p = parted numbers h in (e, p.0, p.1)) (no_largest name numbers e)

  pub by_running : name ≡ codes "running" → (answer : Result (String A) RequestFault)
      → Replies (1 < length numbers) (refusal greatest_total (get_or numbers 0 0) (drop 1 numbers) most_weights) (running_cut (get_or numbers 0 0) (drop 1 numbers)) answer
      → AnsweredBy (Named name numbers) answer
  by_running e =
      answered (Named name numbers) (1 < length numbers) (Running (get_or numbers 0 0) (drop 1 numbers)) (λ h. let p = parted numbers h in (e, p.0, p.1)) (no_running name numbers e)

  pub by_total : name ≡ codes "total" → (answer : Result (String A) RequestFault)
      → Replies (length numbers ≡ 2) (refusal_of (total_asked numbers)) (result_of (total_asked numbers)) answer → AnsweredBy (Named name numbers) answer
  by_total e = answered (Named name numbers) (length numbers ≡ 2) (total_asked numbers) (λ h. (e, counted numbers 2 h)) (no_total name numbers e)

  pub by_fee : name ≡ codes "fee" → (answer : Result (String A) RequestFault)
      → Replies (length numbers ≡ 6) (refusal_of (fee_asked numbers)) (result_of (fee_asked numbers)) answer → AnsweredBy (Named name numbers) answer
  by_fee e = answered (Named name numbers) (length numbers ≡ 6) (fee_asked numbers) (λ h. (e, counted numbers 6 h)) (no_fee name numbers e)

module _ {A : Type 0} where
  -- words write one list of numbers at most
  write_all_same : (ws : List (String A)) (ms ns : List ℕ) → WriteAll ws ms → WriteAll ws ns → ms ≡ ns
  write_all_same [] [] [] h k = refl
  write_all_same [] [] (n ∷ ns) h k = absurd k
  write_all_same [] (m ∷ ms) ns h k = absurd h
  write_all_same (w ∷ ws) [] ns h k = absurd h
  write_all_same (w ∷ ws) (m ∷ ms) [] h k = absurd k
  write_all_same (w ∷ ws) (m ∷ ms) (n ∷ ns) h k =
      ap (λ x. x ∷ ms) (h.0.number ∙ sym k.0.number) ∙ ap (λ xs. n ∷ xs) (write_all_same ws ms ns h.1 k.1)

  -- the name and the rest of the words, as numbers, make the request
  pub asked : (word : String A) (words : List (String A)) (numbers : List ℕ) → WriteAll words numbers → (answer : Result (String A) RequestFault)
      → AnsweredBy (Named (string_bytes word) numbers) answer → AnsweredBy (Asks (word ∷ words)) answer
  asked word words numbers all =
      same_answer (Named (string_bytes word) numbers) (Asks (word ∷ words))
      (λ request made. (numbers, all, made))
      (λ request made. subst (λ ns. Named (string_bytes word) ns request) (write_all_same words made.0 numbers made.1 all) made.2)

  -- words that begin with this one, and the rest as the checker reads it
  pub opened : (words : List (String A)) (word : String A) → 0 < length words → word ≡ get_or words 0 word
      → word ∷ take (length words - 1) (drop 1 words) ≡ words
  opened words word some first = ap (λ w. w ∷ take (length words - 1) (drop 1 words)) first ∙ sym (first_rest words word some)
