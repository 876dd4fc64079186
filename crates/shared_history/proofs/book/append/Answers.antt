use Rattle.std.proofs.Common.{[], ◌∷◌, sym, ◌∙◌, ap, subst}
use Rattle.std.proofs.lemmas.List.{map-append}
use Rattle.shared_history.proofs.Appending.{adds_moves}
use Rattle.shared_history.proofs.book.append.Goals as goal

pub compare_exchange-found-requires : goal.compare_exchange-found-requires
compare_exchange-found-requires g c =
    let head = c.requires.head in
    let offer = c.plain-offer.ensures in
    let pen = c.no_pen-pen.ensures in
    let legal = subst g.L.Law.legal (sym (map-append (λ entry. entry.state) c.args.seen.now.log (c.args.entry.now ∷ []))) c.requires.legal in (
      ap (λ w. w.tracked) head,
      sym (ap (λ w. w.book) head),
      pen.0 ∙ sym (ap (λ w. w.book) head),
      offer.0,
      rw (ap (λ w. w.key) head, pen.1, offer.1, offer.3, c.requires.next) (adds_moves g.L.Law.legal c.args.seen.now.log c.args.entry.now c.args.count (sym c.requires.count) legal),
    )
