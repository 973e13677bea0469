-- Sums and counts over the positions below a number. Assumes nothing.
use Rattle.std.specs.Prelude.{◌≡◌, ℕ, zero, suc, ◌+◌, ◌*◌, ◌<◌, ◌≤◌, List, [], ◌∷◌, ◌++◌, map, length, take, replicate, sum_by, sum, slice_index, refl}
use Rattle.std.proofs.Common.{sym, ap, ◌∙◌, ⊎_elim, zero-add, mul-zero, mul-add, suc-mul, add-one, arith}
use Rattle.std.specs.List.{range_with_len}
use Rattle.std.proofs.lemmas.List.FromFn.{map-range_with_len_more, length-map-range_with_len, get_or-map-range_with_len, fill_by_all}
use Rattle.std.proofs.lemmas.List.{map-id, same_lists, length-replicate, get_or-replicate}
use Rattle.std.proofs.lemmas.List.Sums.{sum_by_push, sum_by_more, sum_by-take-le, sum-map}
use Rattle.std.proofs.lemmas.Simd.{map-map}
use Rattle.std.proofs.lemmas.Bool.{cases_eq}

-- f added up over the positions below n
abbrev pub over : (ℕ → ℕ) → ℕ → ℕ
over f n = sum_by f (range_with_len 0 n)

counting_suc : (n : ℕ) → range_with_len 0 (suc n) ≡ range_with_len 0 n ++ n ∷ []
counting_suc n =
    ap (range_with_len 0) (sym (add-one n)) ∙ sym (map-id (range_with_len 0 (n + 1)))
    ∙ map-range_with_len_more (λ (k : ℕ). k) 0 n n (zero-add n) ∙ ap (λ ks. ks ++ n ∷ []) (map-id (range_with_len 0 n))

pub over-suc : (f : ℕ → ℕ) (n : ℕ) → over f (suc n) ≡ over f n + f n
over-suc f n = ap (sum_by f) (counting_suc n) ∙ sum_by_push f (range_with_len 0 n) n

pub over-le : (f g : ℕ → ℕ) (n : ℕ) → ((k : ℕ) → k < n → f k ≤ g k) → over f n ≤ over g n
over-le f g zero below = omega arith
over-le f g (suc n) below =
    omega (arith, over-suc f n, over-suc g n, over-le f g n (λ k h. below k (omega arith)), below n (omega arith))

pub over-lt : (f g : ℕ → ℕ) (n : ℕ) → ((k : ℕ) → k < n → f k ≤ g k) → (i : ℕ) → i < n → f i < g i → over f n < over g n
over-lt f g zero below i h less = omega arith
over-lt f g (suc n) below i h less =
    ⊎_elim
    (λ e. omega (arith, over-suc f n, over-suc g n, over-le f g n (λ k l. below k (omega arith)), rw e at less))
    (λ ne. omega (arith, over-suc f n, over-suc g n, over-lt f g n (λ k l. below k (omega arith)) i (omega arith) less, below n (omega arith)))
    (cases_eq i n)

pub over-upto : (f : ℕ → ℕ) (i n : ℕ) → i ≤ n → over f i ≤ over f n
over-upto f i zero h = let z : i ≡ 0 = omega arith in rw z (omega arith)
over-upto f i (suc n) h =
    ⊎_elim (λ e. rw e (omega arith)) (λ ne. omega (arith, over-suc f n, over-upto f i n (omega arith))) (cases_eq i (suc n))

pub over-same : (f g : ℕ → ℕ) (n : ℕ) → ((k : ℕ) → k < n → f k ≡ g k) → over f n ≡ over g n
over-same f g zero same = refl
over-same f g (suc n) same =
    omega (arith, over-suc f n, over-suc g n, over-same f g n (λ k h. same k (omega arith)), same n (omega arith))

pub over_add : (f g : ℕ → ℕ) (n : ℕ) → over (λ k. f k + g k) n ≡ over f n + over g n
over_add f g zero = refl
over_add f g (suc n) = omega (arith, over-suc f n, over-suc g n, over-suc (λ k. f k + g k) n, over_add f g n)

pub over-mul : (c : ℕ) (f : ℕ → ℕ) (n : ℕ) → over (λ k. c * f k) n ≡ c * over f n
over-mul c f zero = sym (mul-zero c)
over-mul c f (suc n) =
    over-suc (λ k. c * f k) n ∙ ap (λ s. s + c * f n) (over-mul c f n) ∙ sym (mul-add c (over f n) (f n))
    ∙ ap (λ s. c * s) (sym (over-suc f n))

pub over-const : (c n : ℕ) → over (λ _. c) n ≡ n * c
over-const c zero = omega arith
over-const c (suc n) = omega (arith, over-suc (λ _. c) n, over-const c n, suc-mul n c)

-- a sum over a list, by its positions
pub sum_by_over : (f : ℕ → ℕ) (xs : List ℕ) → sum_by f xs ≡ over (λ k. f (slice_index xs k)) (length xs)
sum_by_over f xs =
    sym (sum-map f xs)
    ∙ ap (λ ys. sum (map f ys)) (fill_by_all (λ k. slice_index xs k) xs (length xs) 0 refl (λ k h. refl))
    ∙ ap sum (map-map f (λ k. slice_index xs k) (range_with_len 0 (length xs)))
    ∙ sum-map (λ k. f (slice_index xs k)) (range_with_len 0 (length xs))

-- a list's sum, by its positions
pub sum_over : (xs : List ℕ) → sum xs ≡ over (λ k. slice_index xs k) (length xs)
sum_over xs = sum_by_over (λ x. x) xs

-- the first elements and the next one are part of all
pub sum-next_le : (xs : List ℕ) (i : ℕ) → i < length xs → sum (take i xs) + slice_index xs i ≤ sum xs
sum-next_le xs i h = omega (arith, sum_by_more (λ x. x) xs i 0 h, sum_by-take-le (λ x. x) xs (i + 1))

-- a list made of a function of the position that is zero everywhere
pub map-zero : (f : ℕ → ℕ) (n : ℕ) → ((k : ℕ) → k < n → f k ≡ 0) → map f (range_with_len 0 n) ≡ replicate n 0
map-zero f n none =
    let sized = length-map-range_with_len f 0 n in
    same_lists _ _ (sized ∙ sym (length-replicate n 0))
    (λ k d h. let l : k < n = omega arith in
    get_or-map-range_with_len f 0 n k k d l (zero-add k) ∙ none k l ∙ sym (get_or-replicate n k 0 d l))
