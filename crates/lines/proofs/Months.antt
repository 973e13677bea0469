-- The line of a period, whose month has two digits. Assumes nothing.
use Rattle.std.proofs.Common.{◌≡◌, ℕ, ◌+◌, ◌-◌, ◌/◌, ◌%◌, ◌^◌, ◌<◌, ◌≤◌, false, codes, List, [], ◌∷◌, ◌++◌, length, replicate, decimal, refl, sym, ap, ◌∙◌, arith}
use Rattle.std.specs.Fmt.{format_spec, padded_integral, styled_decimal}
use Rattle.std.proofs.Math.Logic.{⊎_elim}
use Rattle.std.proofs.Padding.{padded_integral_zeros}
use Rattle.std.proofs.lemmas.Bool.{cases_lt}
use Rattle.std.proofs.lemmas.Fmt.{decimal_digit, decimal_step, decimal_nonempty}
use Rattle.std.proofs.lemmas.List.{append_assoc, length-append}
use Rattle.lines.specs.Lines.{record_line}
use Rattle.lines.specs.declared.record.Record.{Record}
use Rattle.lines.specs.declared.record.Record.TheVariants.{Period}

-- what a hole of two digits, filled with zeros, writes
two_digits : (n : ℕ) → n < 2 ^ 64
    → padded_integral (format_spec 32 0 4 2 (2 ^ 64 - 1)) false [] (decimal n) ≡ decimal (n / 10) ++ decimal (n % 10)
two_digits n small =
    padded_integral_zeros (format_spec 32 0 4 2 (2 ^ 64 - 1)) (decimal n) refl refl ∙ ⊎_elim one more (cases_lt n 10)
  where
    last : decimal (n % 10) ≡ (48 + n % 10) ∷ []
    last = decimal_digit (n % 10) (omega arith)

    one : n < 10 → replicate (2 - length (decimal n)) 48 ++ decimal n ≡ decimal (n / 10) ++ decimal (n % 10)
    one low =
        let high : n / 10 ≡ 0 = omega arith in
        let same : n % 10 ≡ n = omega arith in
        let zero_digit : decimal 0 ≡ 48 ∷ [] = decimal_digit 0 (omega arith) in
        rw (decimal_digit n low, high, same, decimal_digit n low, zero_digit)

    more : 10 ≤ n → replicate (2 - length (decimal n)) 48 ++ decimal n ≡ decimal (n / 10) ++ decimal (n % 10)
    more high =
        let step = decimal_step n high small in
        let long : 2 - length (decimal n) ≡ 0 =
        omega (arith, ap length step, length-append (decimal (n / 10)) ((48 + n % 10) ∷ []), decimal_nonempty (n / 10) (omega arith)) in
        ap (λ k. replicate k 48 ++ decimal n) long ∙ step ∙ ap (λ ds. decimal (n / 10) ++ ds) (sym last)

pub period_text : (year month hours : ℕ) (digits : List ℕ) (r : Record) → digits ≡ styled_decimal (format_spec 32 0 4 2 (2 ^ 64 - 1)) month
    → month < 2 ^ 64 → r ≡ Period year month hours
    → codes "PERIOD " ++ (decimal year ++ (codes "-" ++ (digits ++ (codes " " ++ decimal hours)))) ≡ record_line r
period_text year month hours digits r padded small is =
    let rest : List ℕ = codes " " ++ decimal hours in
    let line : List ℕ → List ℕ = λ text. codes "PERIOD " ++ (decimal year ++ (codes "-" ++ text)) in
    ap (λ ds. line (ds ++ rest)) (padded ∙ two_digits month small)
    ∙ ap line (append_assoc (decimal (month / 10)) (decimal (month % 10)) rest)
    ∙ ap record_line (sym is)
