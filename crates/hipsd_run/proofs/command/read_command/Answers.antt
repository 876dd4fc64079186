use Rattle.std.proofs.Common.{rules, arith, ◌∷◌, [], ◌≡◌, codes, get_or, string_bytes}
use Rattle.std.proofs.lemmas.List.{get_or_default}
use Rattle.hipsd_run.proofs.CommandLemmas.{items_from_reads, no_command, serve_words, no_serve_words}
use Rattle.hipsd_run.proofs.command.read_command.Goals as goal

pub returns-in_err-probe-in-len5-clause-none : goal.returns-in_err-probe-in-len5-clause-none
returns-in_err-probe-in-len5-clause-none c =
    let words =
    items_from_reads c.args.words.now
    (c.name-item-then-words-lt6.result ∷ c.top-item.result ∷ c.n-item.result ∷ c.order-item.result ∷ c.npix-item.result ∷ [])
    (omega arith)
    (c.name-item-then-words-lt6.is, (c.top-item.is, (c.n-item.is, (c.order-item.is, (c.npix-item.is, tt))))) in
    let name : string_bytes c.name-item-then-words-lt6.result ≡ codes "probe" = search rules in
    rw (
      c.from_residual.ensures,
      words,
      name,
      ← c.as_str-in-len5.ensures.value,
      ← c.as_str-in-len5-2.ensures.value,
      ← c.as_str-in-len5-3.ensures.value,
      ← c.as_str-in-len5-4.ensures.value,
    )
    (no_command _ _ _ _ c.in_err-probe-in-len5.ensures.none)

pub returns-in_ok-probe-in-len5-clause-asked : goal.returns-in_ok-probe-in-len5-clause-asked
returns-in_ok-probe-in-len5-clause-asked c =
    let words =
    items_from_reads c.args.words.now
    (c.name-item-then-words-lt6.result ∷ c.top-item.result ∷ c.n-item.result ∷ c.order-item.result ∷ c.npix-item.result ∷ [])
    (omega arith)
    (c.name-item-then-words-lt6.is, (c.top-item.is, (c.n-item.is, (c.order-item.is, (c.npix-item.is, tt))))) in
    let name : string_bytes c.name-item-then-words-lt6.result ≡ codes "probe" = search rules in
    rw (
      words,
      name,
      ← c.as_str-in-len5.ensures.value,
      ← c.as_str-in-len5-2.ensures.value,
      ← c.as_str-in-len5-3.ensures.value,
      ← c.as_str-in-len5-4.ensures.value,
    )
    c.in_ok-probe-in-len5.ensures.asked

pub returns-in-len4-clause-asked : goal.returns-in-len4-clause-asked
returns-in-len4-clause-asked c =
    let address = get_or c.args.words.now 1 c.name-item-then-words-lt5.result in
    let words =
    items_from_reads c.args.words.now
    (c.name-item-then-words-lt5.result ∷ address ∷ c.connections-item.result ∷ c.places-item.result ∷ [])
    (omega arith)
    (c.name-item-then-words-lt5.is, (get_or_default c.args.words.now 1 c.name-item-then-words-lt5.result address (omega arith), (c.connections-item.is, (c.places-item.is, tt)))) in
    let name : string_bytes c.name-item-then-words-lt5.result ≡ codes "serve" = search rules in
    serve_words c.args.words.now c.name-item-then-words-lt5.result address c.connections-item.result c.places-item.result c.read_serve.result c.as_str-in-len4.result.now c.as_str-in-len4-2.result.now
    words name c.as_str-in-len4.ensures.value c.as_str-in-len4-2.ensures.value c.read_serve.ensures.asked

pub returns-in-len4-clause-none : goal.returns-in-len4-clause-none
returns-in-len4-clause-none c =
    let address = get_or c.args.words.now 1 c.name-item-then-words-lt5.result in
    let words =
    items_from_reads c.args.words.now
    (c.name-item-then-words-lt5.result ∷ address ∷ c.connections-item.result ∷ c.places-item.result ∷ [])
    (omega arith)
    (c.name-item-then-words-lt5.is, (get_or_default c.args.words.now 1 c.name-item-then-words-lt5.result address (omega arith), (c.connections-item.is, (c.places-item.is, tt)))) in
    let name : string_bytes c.name-item-then-words-lt5.result ≡ codes "serve" = search rules in
    no_serve_words c.args.words.now c.name-item-then-words-lt5.result address c.connections-item.result c.places-item.result c.read_serve.result c.as_str-in-len4.result.now c.as_str-in-len4-2.result.now
    words name c.as_str-in-len4.ensures.value c.as_str-in-len4-2.ensures.value c.read_serve.ensures.none
