-- The faults of reading: layer, number and place of each. Assumes nothing.
use Rattle.std.specs.Prelude.{◌≡◌, ℕ, Some, None, Ok, Err, Option, Result}
use Rattle.std.specs.Option.{option_map}
use Rattle.plan.specs.Calls.{PlanCall, refusal_of, after_call}
use Rattle.plan.specs.Contents.{Contents}
use Rattle.plan.specs.Faults.{number_of as number_of_plan}
use Rattle.words.specs.Layout.{Decoded}
use Rattle.words.specs.declared.word.Word.{Word}
use Rattle.monthfile.specs.declared.brought.Brought.{Brought}
use Rattle.monthfile.specs.declared.brought.Brought.TheVariants.{Nothing}
use Rattle.monthfile.specs.declared.fault.FileFault.TheVariants.{Malformed}
use Rattle.monthfile.specs.declared.fault.ReadFault.{ReadFault}
use Rattle.monthfile.specs.declared.fault.ReadFault.TheVariants.{File, Plan, Memory}
use Rattle.monthfile.specs.declared.phase.Phase.{Phase}
use Rattle.monthfile.specs.declared.telling.Layer.TheVariants.{File as FILE, Plan as PLAN}
use Rattle.monthfile.specs.declared.telling.Told.{Told}
use Rattle.monthfile.specs.Numbers.{number_of}
use Rattle.monthfile.specs.Judging.{Standing, Verdict, Faulty, Taken, judge}

-- Layer, number and place of each fault; want of memory tells none.
abbrev pub told : ReadFault → Option Told
told (File placed) = Some (record { layer = FILE; number = number_of placed.fault; place = placed.place })
told (Plan placed) =
    option_map (λ number. record { layer = PLAN; number = number; place = placed.place }) (number_of_plan placed.fault)
told Memory = None

-- what a verdict on the word at a place tells, if it is a fault
abbrev pub blamed : ℕ → Verdict → Option Told
blamed place (Faulty layer number) = Some (record { layer = layer; number = number; place = place })
blamed place (Taken standing brought) = None

-- What the judging of a word answers, and where the reader stands then. A word that is not taken leaves it where it stood;
-- where that tells nothing, memory was wanting for a word that would have been taken.
abbrev pub Judged : Standing → ℕ → Word → Result Brought ReadFault → Standing → Type 0
Judged before place word (Ok brought) after = judge before word ≡ Taken after brought
Judged before place word (Err fault) after = (told fault ≡ blamed place (judge before word)) × (after ≡ before)

-- the same of bits that make a word or none, which is FILE's fault 1
abbrev pub JudgedBits : Standing → ℕ → Option Word → Result Brought ReadFault → Standing → Type 0
JudgedBits before place None (Ok brought) after = ⊥
JudgedBits before place None (Err fault) after =
    (told fault ≡ Some (record { layer = FILE; number = number_of Malformed; place = place })) × (after ≡ before)
JudgedBits before place (Some word) r after = Judged before place word r after

-- The judging of the bits at a place.
abbrev pub Stepped : Standing → ℕ → ℕ → Result Brought ReadFault → Standing → Type 0
Stepped before place bits r after = (word : Option Word) × Decoded bits word × JudgedBits before place word r after

-- What a plan call that a word completes answers: where it is taken, nothing is brought and the next phase begins.
abbrev pub JudgedByPlan : Standing → ℕ → PlanCall → (Contents → Phase) → Result Brought ReadFault → Standing → Type 0
JudgedByPlan before place call next (Ok brought) after =
    (refusal_of before.plan call ≡ None) × (brought ≡ Nothing)
    × (after ≡ record { phase = next (after_call before.plan call); plan = after_call before.plan call })
JudgedByPlan before place call next (Err fault) after =
    (told fault ≡ option_map (λ number. record { layer = PLAN; number = number; place = place }) (refusal_of before.plan call))
    × (after ≡ before)
