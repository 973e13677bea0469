-- What a full plan has, and the words of its segments one by one. Assumes nothing.
use Rattle.std.proofs.Common.{◌≡◌, ℕ, zero, suc, ◌+◌, ◌<◌, true, [], ◌∷◌, ◌++◌, length, get_or, drop, slice_index_or, is_some, Some, None, Option, sym, refl, ap, ◌∙◌, arith}
use Rattle.std.specs.Option.{option_map}
use Rattle.std.specs.List.{flat_map}
use Rattle.std.proofs.lemmas.List.{at_drop_more}
use Rattle.std.proofs.lemmas.Option.{slice_get-get_or}
use Rattle.std.proofs.lemmas.Bool.{eqb-true}
use Rattle.tariff.specs.declared.terms.Terms.{Terms}
use Rattle.plan.specs.Calls.{AddSegment}
use Rattle.plan.specs.Contents.{Contents}
use Rattle.plan.specs.Limits.{most_segments}
use Rattle.plan.specs.Questions.{is_full, terms_of}
use Rattle.plan.specs.Segments.{segment_number}
use Rattle.plan.specs.View.{segment_numbers}
use Rattle.plan.specs.WellMade.{segment_calls}
use Rattle.plan.specs.declared.segment.Segment.{Segment}
use Rattle.plan.specs.declared.segment.Segment.TheVariants.{Amr, S30, Mrc, Eav}
use Rattle.monthfile.specs.File.{call_words}

seen_alike : {X Y : Type 0} (f : X → Y) (o : Option X) → is_some o ≡ is_some (option_map f o)
seen_alike f None = refl
seen_alike f (Some x) = refl

pub some_behind : {X Y : Type 0} (f : X → Y) (o : Option X) (seen : Option Y) → option_map f o ≡ seen → is_some seen ≡ true → is_some o ≡ true
some_behind f o seen e some = seen_alike f o ∙ ap is_some e ∙ some

pub full_length : (plan : Contents) → is_full plan ≡ true → length plan.segments ≡ most_segments
full_length plan full = eqb-true (length plan.segments) most_segments full

-- each segment stands at its number
pub in_place : (i : ℕ) (d : Segment) → i < most_segments → segment_number (slice_index_or (Amr ∷ (S30 ∷ (Mrc ∷ (Eav ∷ [])))) i d) ≡ i
in_place zero d low = refl
in_place (suc zero) d low = refl
in_place (suc (suc zero)) d low = refl
in_place (suc (suc (suc zero))) d low = refl
in_place (suc (suc (suc (suc i)))) d low = absurd (omega arith)

-- the words of one segment, and then those of the segments after it
pub segment_parts : (plan : Contents) (i number : ℕ) (o : Option Terms) (t : Terms) → is_full plan ≡ true → i < most_segments → number ≡ i
    → option_map segment_numbers o ≡ terms_of plan number → o ≡ Some t
    → flat_map call_words (segment_calls i (drop i plan.segments))
    ≡ call_words (AddSegment number (segment_numbers t)) ++ flat_map call_words (segment_calls (i + 1) (drop (i + 1) plan.segments))
segment_parts plan i number o t full low its terms is =
    let ss = plan.segments in
    let s = segment_numbers t in
    let within : i < length ss = omega (arith, full_length plan full) in
    let found = slice_get-get_or ss i s within in
    let here : get_or ss i s ≡ s = cc in
    at_drop_more (λ l. flat_map call_words (segment_calls i l)) ss i s within
    ∙ ap (λ x. call_words (AddSegment i x) ++ flat_map call_words (segment_calls (i + 1) (drop (i + 1) ss))) here
    ∙ ap (λ k. call_words (AddSegment k s) ++ flat_map call_words (segment_calls (i + 1) (drop (i + 1) ss))) (sym its)
