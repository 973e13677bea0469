-- How many words and bytes a file has, and its words part by part. Assumes nothing.
use Rattle.std.proofs.Common.{◌≡◌, ℕ, ◌+◌, ◌*◌, true, List, [], ◌∷◌, ◌++◌, map, length, is_some, Some, None, Option, refl, ap, ◌∙◌, append_assoc, arith}
use Rattle.std.specs.List.{flat_map}
use Rattle.std.proofs.lemmas.List.{length-append, length-map}
use Rattle.std.proofs.lemmas.Bool.{false≢true}
use Rattle.std.proofs.lemmas.Grind.{flat_map-append}
use Rattle.std.proofs.lemmas.List.Concat.{flat_map_single}
use Rattle.std.proofs.lemmas.List.Folds.{flat_map-map}
use Rattle.plan.specs.Calls.{PlanCall, AddMeter, AddCarried}
use Rattle.plan.specs.Contents.{Contents, PeriodNumbers, SegmentNumbers}
use Rattle.plan.specs.Limits.{most_segments}
use Rattle.plan.specs.Questions.{is_full}
use Rattle.plan.specs.WellMade.{period_call, segment_calls, is_well_made}
use Rattle.plan.specs.declared.booking.Booking.{Booking}
use Rattle.plan.proofs.Complete.{complete}
use Rattle.words.specs.Bytes.{word_bytes}
use Rattle.words.specs.declared.word.Word.{Word}
use Rattle.monthfile.specs.File.{call_words, booking_words, file_of, file_words}
use Rattle.monthwriter.specs.Placing.{meter_word, peak_word}
use Rattle.monthwriter.proofs.Present.{full_length}
use Rattle.monthwriter.proofs.Putting.{length-bytes}

abbrev pub period_words : Contents → List Word
period_words plan = flat_map call_words (period_call plan.period)

abbrev pub segment_words : Contents → List Word
segment_words plan = flat_map call_words (segment_calls 0 plan.segments)

abbrev pub entry_words : Contents → List Word
entry_words plan = map meter_word plan.meters ++ map peak_word plan.carried

-- the words of a file: its period, its segments, its meters and carried peaks, its bookings
pub file_parts : (plan : Contents) (bs : List Booking)
    → file_words plan bs
    ≡ flat_map call_words (period_call plan.period) ++ (flat_map call_words (segment_calls 0 plan.segments) ++ (entry_words plan ++ booking_words None bs))
file_parts plan bs =
    let meters : List PlanCall = map AddMeter plan.meters in
    let peaks : List PlanCall = map AddCarried plan.carried in
    let segments : List PlanCall = segment_calls 0 plan.segments in
    let entries : flat_map call_words (meters ++ peaks) ≡ entry_words plan =
    flat_map-append call_words meters peaks
    ∙ ap (λ ws. ws ++ flat_map call_words peaks) (flat_map-map call_words AddMeter plan.meters ∙ flat_map_single meter_word plan.meters)
    ∙ ap (λ ws. map meter_word plan.meters ++ ws) (flat_map-map call_words AddCarried plan.carried ∙ flat_map_single peak_word plan.carried) in
    ap (λ ws. ws ++ booking_words None bs)
    (flat_map-append call_words (period_call plan.period) (segments ++ (meters ++ peaks))
    ∙ ap (λ ws. period_words plan ++ ws)
    (flat_map-append call_words segments (meters ++ peaks) ∙ ap (λ ws. segment_words plan ++ ws) entries))
    ∙ append_assoc (period_words plan) (segment_words plan ++ entry_words plan) (booking_words None bs)
    ∙ ap (λ ws. period_words plan ++ ws) (append_assoc (segment_words plan) (entry_words plan) (booking_words None bs))

length-period : (period : Option PeriodNumbers) → is_some period ≡ true → length (flat_map call_words (period_call period)) ≡ 1
length-period None some = absurd (false≢true some)
length-period (Some p) some = refl

length-segments : (k : ℕ) (ss : List SegmentNumbers) → length (flat_map call_words (segment_calls k ss)) ≡ 2 * length ss
length-segments k [] = refl
length-segments k (s ∷ ss) = omega (arith, length-segments (k + 1) ss)

-- the length of a full plan's file
pub length-file : (plan : Contents) (bs : List Booking) → is_well_made plan ≡ true → is_full plan ≡ true
    → length (file_of plan bs) ≡ word_bytes * (1 + 2 * most_segments + (length plan.meters + length plan.carried) + length (booking_words None bs))
length-file plan bs made full =
    let one = length-period plan.period (complete plan made full).0 in
    let two = length-segments 0 plan.segments in
    let four = full_length plan full in
    let entries : length (entry_words plan) ≡ length plan.meters + length plan.carried =
    length-append (map meter_word plan.meters) (map peak_word plan.carried)
    ∙ omega (arith, length-map plan.meters meter_word, length-map plan.carried peak_word) in
    let words : length (file_words plan bs) ≡ 1 + 2 * most_segments + (length plan.meters + length plan.carried) + length (booking_words None bs) =
    ap length (file_parts plan bs)
    ∙ omega (
      arith,
      one,
      two,
      four,
      entries,
      length-append (period_words plan) (segment_words plan ++ (entry_words plan ++ booking_words None bs)),
      length-append (segment_words plan) (entry_words plan ++ booking_words None bs),
      length-append (entry_words plan) (booking_words None bs),
    ) in
    length-bytes (file_words plan bs) ∙ ap (λ n. word_bytes * n) words
