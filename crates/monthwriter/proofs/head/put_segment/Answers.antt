use Rattle.std.proofs.Common.{◌≡◌, ℕ, [], ◌∷◌}
use Rattle.tariff.specs.Services.{service_number}
use Rattle.tariff.specs.declared.terms.Terms.{Terms}
use Rattle.plan.specs.Calls.{AddSegment}
use Rattle.plan.specs.View.{segment_numbers}
use Rattle.words.specs.declared.word.Word.TheVariants.{Segment, Factor}
use Rattle.monthfile.specs.File.{call_words}
use Rattle.monthwriter.proofs.Putting.{at_start, one_step}
use Rattle.monthwriter.proofs.head.put_segment.Goals as goal

-- the two words of a segment, by the numbers that its terms have
parts : (segment : ℕ) (t : Terms) (service tariff factor : ℕ) → service ≡ service_number t.service → tariff ≡ t.tariff → factor ≡ t.factor
    → call_words (AddSegment segment (segment_numbers t))
    ≡ Segment (record { segment = segment; service = service; tariff = tariff }) ∷ (Factor segment factor ∷ [])
parts segment t service tariff factor s p f = cc

pub put-requires-2 : goal.put-requires-2
put-requires-2 c =
    let words = parts c.args.segment c.args.terms.now c.from.result c.tariff.result c.factor.result (cc) (cc) (cc) in
    (one_step (at_start c.requires) words c.put.ensures).room

pub returns : goal.returns
returns c =
    let words = parts c.args.segment c.args.terms.now c.from.result c.tariff.result c.factor.result (cc) (cc) (cc) in
    (one_step (at_start c.requires) words c.put.ensures).goes c.put-2.new.self c.put-2.ensures
