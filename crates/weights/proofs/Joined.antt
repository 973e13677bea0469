-- What the laws of a joining give of amounts that are joined one by one.
use Rattle.std.proofs.Common.{◌≡◌, ℕ, ◌+◌, ◌<◌, ◌≤◌, cond, List, [], ◌∷◌, length, get_or, is_some, is_ok, Some, None, Ok, Err, Option, Result, refl, ap, ◌∙◌, subst, zero-add, one-add, arith}
use mathlib.Core.List.{Perm, Permᴰ, is_set}
use mathlib.Core.Logic.{∥∥₁_elim}
use native.Mathlib.Nat.{ℕ_set}
use Rattle.std.specs.List.{AllByRecursion}
use Rattle.std.proofs.lemmas.List.{get_or-set_same, set-set}
use Rattle.std.proofs.lemmas.Bool.Decides.{nat_tests}
use Rattle.weights.specs.Accepted.{accepted, accepted_at, joined_all, weights_after, NotedEach}
use Rattle.weights.specs.Answers.{Noted, note_refusal}
use Rattle.weights.specs.Joining.{Swaps, Keeps, Covers}
use Rattle.weights.specs.Limits.{meter_count}
use Rattle.weights.specs.declared.fault.WeightFault.{WeightFault}

-- an amount within its limits is accepted at any number up to one that was accepted
lighter : (meter amount other joined heavy heavier : ℕ) →
    joined ≤ heavier →
    note_refusal meter amount heavy ≡ None →
    note_refusal meter other heavier ≡ None →
    note_refusal meter amount joined ≡ None
lighter meter amount other joined heavy heavier le e f = grind (arith, nat_tests)

module _ (join : ℕ → ℕ → ℕ) (meter : ℕ) where
  -- none of the amounts is refused where it stands
  abbrev Taken : ℕ → List ℕ → Type 0
  Taken weight [] = Unit {0}
  Taken weight (amount ∷ rest) =
      (note_refusal meter amount (join weight amount) ≡ None) × Taken (join weight amount) rest

  -- the next amount enters or not, by what it is refused with
  next : ℕ → ℕ → List ℕ → Option ℕ → List ℕ
  next weight amount rest refusal =
      cond (is_some refusal) (accepted join weight meter rest) (amount ∷ accepted join (join weight amount) meter rest)

  pub accepted_taken : (weight amount : ℕ) (rest : List ℕ) →
      note_refusal meter amount (join weight amount) ≡ None →
      accepted join weight meter (amount ∷ rest) ≡ amount ∷ accepted join (join weight amount) meter rest
  unfolding next
  accepted_taken weight amount rest e = ap (next weight amount rest) e

  pub accepted_refused : (weight amount number : ℕ) (rest : List ℕ) →
      note_refusal meter amount (join weight amount) ≡ Some number →
      accepted join weight meter (amount ∷ rest) ≡ accepted join weight meter rest
  unfolding next
  accepted_refused weight amount number rest e = ap (next weight amount rest) e

  -- amounts of which none is refused are the accepted ones, and of the accepted ones none is refused
  taken_all : (weight : ℕ) (amounts : List ℕ) → Taken weight amounts → accepted join weight meter amounts ≡ amounts
  taken_all weight [] t = refl
  taken_all weight (amount ∷ rest) t =
      accepted_taken weight amount rest t.0 ∙ ap (λ (l : List ℕ). amount ∷ l) (taken_all (join weight amount) rest t.1)

  taken_next : (weight amount : ℕ) (rest : List ℕ) (refusal : Option ℕ) →
      note_refusal meter amount (join weight amount) ≡ refusal →
      Taken weight (accepted join weight meter rest) →
      Taken (join weight amount) (accepted join (join weight amount) meter rest) →
      Taken weight (next weight amount rest refusal)
  unfolding next
  taken_next weight amount rest None e refused taken = (e, taken)
  taken_next weight amount rest (Some number) e refused taken = refused

  taken_accepted : (weight : ℕ) (amounts : List ℕ) → Taken weight (accepted join weight meter amounts)
  unfolding next
  taken_accepted weight [] = tt
  taken_accepted weight (amount ∷ rest) =
      taken_next weight amount rest _ refl (taken_accepted weight rest) (taken_accepted (join weight amount) rest)

  module _ (swaps : Swaps join) (keeps : Keeps join) where
    -- what both join to decides, so either may come first
    taken_swap : (weight a b : ℕ) (rest : List ℕ) → Taken weight (a ∷ b ∷ rest) → Taken weight (b ∷ a ∷ rest)
    taken_swap weight a b rest t =
        let same = swaps weight a b in
        let kept = keeps (join weight b) a in
        let both = join (join weight a) b in (
          lighter meter b b (join weight b) both both (omega arith) t.1.0 t.1.0,
          (
            lighter meter a b (join (join weight b) a) (join weight a) both (omega arith) t.0 t.1.0,
            subst (λ (w : ℕ). Taken w rest) same t.1.1,
          ),
        )

    taken_permᴰ : {xs ys : List ℕ} (weight : ℕ) → Permᴰ xs ys → Taken weight xs → Taken weight ys
    taken_permᴰ weight Permᴰ.nil t = t
    taken_permᴰ weight (Permᴰ.cons {l₂ = ys} e d) t =
        subst (λ (x : ℕ). Taken weight (x ∷ ys)) e (t.0, taken_permᴰ _ d t.1)
    taken_permᴰ weight (Permᴰ.swap {a = a} {b = b} {b' = b'} {l = l} e f) t =
        subst (λ (x : ℕ). Taken weight (x ∷ b' ∷ l)) f
        (subst (λ (x : ℕ). Taken weight (b ∷ x ∷ l)) e (taken_swap weight a b l t))
    taken_permᴰ weight (Permᴰ.trans d e) t = taken_permᴰ weight e (taken_permᴰ weight d t)

    -- accepted amounts are all accepted in any other order
    pub accepted_perm : (weight : ℕ) (amounts others : List ℕ) →
        Perm (accepted join weight meter amounts) others →
        accepted join weight meter others ≡ others
    accepted_perm weight amounts others p =
        ∥∥₁_elim p (is_set ℕ_set _ _)
        (λ d. taken_all weight others (taken_permᴰ weight d (taken_accepted weight amounts)))

module _ (join : ℕ → ℕ → ℕ) where
  joined_all-permᴰ : {xs ys : List ℕ} (swaps : Swaps join) (weight : ℕ) →
      Permᴰ xs ys →
      joined_all join weight ys ≡ joined_all join weight xs
  joined_all-permᴰ swaps weight Permᴰ.nil = refl
  joined_all-permᴰ swaps weight (Permᴰ.cons {b = b} {l₁ = xs} e d) =
      joined_all-permᴰ swaps (join weight b) d ∙ rw e
  joined_all-permᴰ swaps weight (Permᴰ.swap {a = a} {b = b} {l = l} e f) =
      rw (swaps weight a b, e, f)
  joined_all-permᴰ swaps weight (Permᴰ.trans d e) =
      joined_all-permᴰ swaps weight e ∙ joined_all-permᴰ swaps weight d

  -- the order of the amounts does not matter
  pub joined_all-perm : Swaps join →
      (weight : ℕ) (xs ys : List ℕ) →
      Perm xs ys →
      joined_all join weight ys ≡ joined_all join weight xs
  joined_all-perm swaps weight xs ys p = ∥∥₁_elim p (ℕ_set _ _) (joined_all-permᴰ swaps weight)

  -- the weight does not fall, and covers each amount
  pub joined_all-keeps : Keeps join → (weight : ℕ) (amounts : List ℕ) → weight ≤ joined_all join weight amounts
  joined_all-keeps keeps weight [] = omega arith
  joined_all-keeps keeps weight (amount ∷ rest) =
      omega (arith, keeps weight amount, joined_all-keeps keeps (join weight amount) rest)

  pub joined_all-covers : Keeps join →
      Covers join →
      (weight : ℕ) (amounts : List ℕ) →
      AllByRecursion (λ amount. amount ≤ joined_all join weight amounts) amounts
  joined_all-covers keeps covers weight [] = tt
  joined_all-covers keeps covers weight (amount ∷ rest) = (
    omega (arith, covers weight amount, joined_all-keeps keeps (join weight amount) rest),
    joined_all-covers keeps covers (join weight amount) rest,
  )

module _ (join : ℕ → ℕ → ℕ) (weights : List ℕ) (meter : ℕ) where
  -- one note more, before those that are left
  pub noted_next : length weights ≡ meter_count →
      (amount : ℕ) (rest after : List ℕ) (r : Result (Unit {0}) WeightFault) →
      Noted join weights meter amount r after →
      (cond (is_ok r) 1 0 + length (accepted_at join after meter rest)
      ≡ length (accepted_at join weights meter (amount ∷ rest)))
      × (weights_after join after meter rest ≡ weights_after join weights meter (amount ∷ rest))
  noted_next sized amount rest after (Ok _) n =
      let weight = get_or weights meter 0 in
      let inside : meter < length weights = grind (arith, nat_tests) in
      let read = get_or-set_same weights meter (join weight amount) 0 inside in (
        rw (n.1, read, accepted_taken join meter weight amount rest n.0) (one-add _),
        rw (n.1, read, accepted_taken join meter weight amount rest n.0, set-set),
      )
  noted_next sized amount rest after (Err fault) n =
      let weight = get_or weights meter 0 in (
        rw (n.1, accepted_refused join meter weight amount _ rest n.0) (zero-add _),
        rw (n.1, accepted_refused join meter weight amount _ rest n.0),
      )

  -- what the laws say of amounts noted one after another
  pub noted_each : Swaps join →
      Keeps join →
      Covers join →
      (amounts : List ℕ) (count : ℕ) (after : List ℕ) →
      count ≡ length (accepted_at join weights meter amounts) →
      after ≡ weights_after join weights meter amounts →
      NotedEach join weights meter amounts count after
  noted_each swaps keeps covers amounts count after counted left =
      let weight = get_or weights meter 0 in
      let xs = accepted join weight meter amounts in
      record {
        counted = counted;
        left = left;
        kept = joined_all-keeps join keeps weight xs;
        covered = joined_all-covers join keeps covers weight xs;
        rearranged = λ others p.
            let again = accepted_perm join meter swaps keeps weight amounts others p in
            (again, rw (again, joined_all-perm join swaps weight xs others p, left));
      }
