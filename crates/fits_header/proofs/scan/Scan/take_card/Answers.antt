use Rattle.std.proofs.Common.{◌≡◌, ◌+◌, false, true, refl, sym, ap, ◌∙◌}
use Rattle.std.specs.Option.{option_copied}
use Rattle.fits_header.specs.Values.{takes}
use Rattle.fits_header.specs.Reading.{is_bad}
use Rattle.fits_header.specs.declared.fault.HeaderFault.TheVariants.{BadValue}
use Rattle.fits_header.proofs.ScanLemmas.{of-none, of-some, bad-skipped, bad-no_text, bad-text, scanned-skipped, scanned-named, ok-part, err-part}
use Rattle.fits_header.proofs.scan.Scan.take_card.Goals as goal

pub returns-in-None-clause-accepted : goal.returns-in-None-clause-accepted
returns-in-None-clause-accepted c = bad-skipped c.args.card.now (of-none c.args.card.now (sym c.of.ensures ∙ c.in-None.is))

pub returns-in-None-clause-scanned : goal.returns-in-None-clause-scanned
returns-in-None-clause-scanned c =
    λ cards inside e so_far. scanned-skipped cards c.args.place c.args.card.now c.args.self.now inside e (of-none c.args.card.now (sym c.of.ensures ∙ c.in-None.is)) so_far

pub returns-in-None-value_text-clause-refused : goal.returns-in-None-value_text-clause-refused
returns-in-None-value_text-clause-refused c =
    let named = of-some c.args.card.now c.in-Some.keyword (sym c.of.ensures ∙ c.in-Some.is) in (
      bad-no_text c.args.card.now c.in-Some.keyword named (sym c.value_text.ensures ∙ ap option_copied c.in-None-value_text.is),
      ap BadValue c.number_of.ensures,
    )

pub returns-in-Some-value_text-clause-accepted : goal.returns-in-Some-value_text-clause-accepted
returns-in-Some-value_text-clause-accepted c =
    let named = of-some c.args.card.now c.in-Some.keyword (sym c.of.ensures ∙ c.in-Some.is) in
    let text = sym c.value_text.ensures ∙ ap option_copied c.in-Some-value_text.is in
    ok-part c.take_value.result (takes c.in-Some.keyword c.in-Some-value_text.text.now) tt (BadValue (c.args.place + 1)) (is_bad c.args.card.now ≡ false) c.take_value.ensures.outcome
    (λ good. bad-text c.args.card.now c.in-Some.keyword c.in-Some-value_text.text.now true named text good)

pub returns-in-Some-value_text-clause-refused : goal.returns-in-Some-value_text-clause-refused
returns-in-Some-value_text-clause-refused c =
    let named = of-some c.args.card.now c.in-Some.keyword (sym c.of.ensures ∙ c.in-Some.is) in
    let text = sym c.value_text.ensures ∙ ap option_copied c.in-Some-value_text.is in
    err-part c.take_value.result (takes c.in-Some.keyword c.in-Some-value_text.text.now) tt (BadValue (c.args.place + 1))
    (λ fault. (is_bad c.args.card.now ≡ true) × (fault ≡ BadValue (c.args.place + 1))) c.take_value.ensures.outcome
    (λ refused. (bad-text c.args.card.now c.in-Some.keyword c.in-Some-value_text.text.now false named text refused, refl))

pub returns-in-Some-value_text-clause-scanned : goal.returns-in-Some-value_text-clause-scanned
returns-in-Some-value_text-clause-scanned c =
    let named = of-some c.args.card.now c.in-Some.keyword (sym c.of.ensures ∙ c.in-Some.is) in
    let text = sym c.value_text.ensures ∙ ap option_copied c.in-Some-value_text.is in
    ok-part c.take_value.result (takes c.in-Some.keyword c.in-Some-value_text.text.now) tt (BadValue (c.args.place + 1)) _ c.take_value.ensures.outcome
    (λ good. λ cards inside e so_far. scanned-named cards c.args.place c.args.card.now c.in-Some.keyword c.in-Some-value_text.text.now c.args.self.now c.take_value.new.self
    inside e named text good c.take_value.ensures.header c.take_value.ensures.repeated so_far)
