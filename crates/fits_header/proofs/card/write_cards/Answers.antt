use Rattle.std.proofs.Common.{ℕ, ◌*◌, ◌≤◌, ◌++◌, length, drop, replicate, ap, ◌∙◌, arith}
use Rattle.std.specs.List.{concat}
use Rattle.fits_header.proofs.WriteLemmas.{filled-behind, length-part, header-filled}
use Rattle.fits_header.proofs.card.write_cards.Goals as goal

pub returns-clause-written : goal.returns-clause-written
returns-clause-written c =
    let cards = c.args.cards.now in
    let used = 80 * length cards in
    let len = c.whole_blocks-len.result in
    let within : len ≤ length c.put_cards.new.out = omega (arith, c.requires, c.whole_blocks-len.ensures.len, c.put_cards.auto.out) in
    filled-behind (concat cards) c.put_cards.new.out c.args.out.now c.fill.new.self used len c.put_cards.ensures.len c.whole_blocks-len.ensures.covers c.put_cards.ensures.written
    (c.fill.ensures.after (λ y e. e) ∙ ap (λ n. replicate {A = ℕ} n 32) (length-part c.put_cards.new.out used len within))
    ∙ ap (λ ys. ys ++ drop len c.args.out.now) (header-filled cards used len c.put_cards.ensures.len c.whole_blocks-len.ensures.len)
