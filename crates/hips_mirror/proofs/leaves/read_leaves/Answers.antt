use Rattle.std.proofs.Common.{◌≡◌, ◌+◌, ◌∙◌, [], ◌∷◌, ◌++◌, inl, refl, sym, ap, arith, get_or, length, map}
use Rattle.std.specs.Map.{keys_of}
use Rattle.std.proofs.lemmas.List.{take_more}
use Rattle.std.proofs.lemmas.Result.{err_from_is_err_and}
use Rattle.shelf_io.proofs.LoadLemmas.{if_err_from}
use Rattle.shelf_io.proofs.LeafLemmas.{lower_next}
use Rattle.mirror_frame.specs.Requests.{leaf_ask}
use Rattle.mirror_frame.specs.Peer.{body_of}
use Rattle.mirror_frame.specs.declared.due.Due.TheVariants.{Survey}
use Rattle.hips_mirror.specs.Mirror.{WrongLeaf, RefusesReply, RefusesAt, RefusesLeaf}
use Rattle.hips_mirror.specs.Stages.{IsRefusedIn}
use Rattle.hips_mirror.proofs.StageLemmas.{one_refused, body_refused_in, stopped_so}
use Rattle.hips_mirror.proofs.ToldLemmas.{of_err}
use Rattle.hips_mirror.proofs.LeavesLemmas.{asked_leaf, put_keys, put_count, put_higher}
use Rattle.hips_mirror.proofs.LeafStage.{leaf_reached, leaf_stops}
use Rattle.hips_mirror.proofs.leaves.read_leaves.Goals as goal

pub returns-in_err-ask-clause-refused : goal.returns-in_err-ask-clause-refused
returns-in_err-ask-clause-refused g c =
    let k = c.args.survey.now.pinned in
    let d = c.args.survey.now.conf in
    let i = c.loop-number.number-index in
    let number = get_or c.args.numbers.now i 0 in
    let why = c.in_err-ask.field-0.0 in
    let own = c.leaf-request.ensures.ask ∙ asked_leaf d.shape.top number c.leaf_cell.result c.leaf_cell.ensures.order c.leaf_cell.ensures.npix in
    let at : c.leaf-request.result.number ≡ 3 + length c.loop-number.tiles = c.leaf-request.ensures.number ∙ ap (λ n. 3 + n) c.len.ensures.pairs in
    if_err_from (λ refusal. IsRefusedIn g.S.Source g.K.Sink k (map (leaf_ask d.shape.top) c.args.numbers.now) (λ bytes. RefusesLeaf k d c.args.numbers.now bytes refusal) c.args.peer.now c.ask.new.peer refusal)
    c.from_residual.result why (err_from_is_err_and c.from_residual.result c.from_residual.ensures.1)
    (leaf_stops g.S.Source g.K.Sink k d c.args.numbers.now c.loop-number.tiles i c.loop-number-test.true c.args.peer.now c.loop-number.peer c.loop-number.invariant.reached c.loop-number.invariant.keys c.loop-number.invariant.count c.ask.new.peer why
    (stopped_so g.S.Source g.K.Sink k (leaf_ask d.shape.top number ∷ []) (λ bytes. RefusesReply (Survey k) (3 + length c.loop-number.tiles) bytes why) (λ bytes. RefusesAt (Survey k) (3 + length c.loop-number.tiles) (WrongLeaf d number) bytes why) c.loop-number.peer c.ask.new.peer why (λ p r. inl r)
    (one_refused g.S.Source g.K.Sink k (leaf_ask d.shape.top number) c.leaf-request.result.ask (Survey k) c.loop-number.peer c.ask.new.peer own refl c.leaf-request.result.number (3 + length c.loop-number.tiles) why at
    c.in_err-ask.ensures.asked c.in_err-ask.ensures.refused c.in_err-ask.ensures.goes)))

pub returns-in_err-taken-clause-refused : goal.returns-in_err-taken-clause-refused
returns-in_err-taken-clause-refused g c =
    let k = c.args.survey.now.pinned in
    let d = c.args.survey.now.conf in
    let i = c.loop-number.number-index in
    let number = get_or c.args.numbers.now i 0 in
    let why = c.in_err-taken.field-0.0 in
    let own = c.leaf-request.ensures.ask ∙ asked_leaf d.shape.top number c.leaf_cell.result c.leaf_cell.ensures.order c.leaf_cell.ensures.npix in
    if_err_from (λ refusal. IsRefusedIn g.S.Source g.K.Sink k (map (leaf_ask d.shape.top) c.args.numbers.now) (λ bytes. RefusesLeaf k d c.args.numbers.now bytes refusal) c.args.peer.now c.ask.new.peer refusal)
    c.from_residual-in_err-taken.result why (err_from_is_err_and c.from_residual-in_err-taken.result c.from_residual-in_err-taken.ensures.1)
    (leaf_stops g.S.Source g.K.Sink k d c.args.numbers.now c.loop-number.tiles i c.loop-number-test.true c.args.peer.now c.loop-number.peer c.loop-number.invariant.reached c.loop-number.invariant.keys c.loop-number.invariant.count c.ask.new.peer why
    (of_err c.take_leaf-taken.result why (λ refusal. IsRefusedIn g.S.Source g.K.Sink k (leaf_ask d.shape.top number ∷ []) (λ bytes. RefusesAt (Survey k) (3 + length c.loop-number.tiles) (WrongLeaf d number) bytes refusal) c.loop-number.peer c.ask.new.peer refusal)
    c.in_err-taken.was
    (body_refused_in g.S.Source g.K.Sink k (leaf_ask d.shape.top number) c.leaf-request.result.ask (Survey k) c.loop-number.peer c.ask.new.peer own refl (3 + length c.loop-number.tiles) (WrongLeaf d number) c.take_leaf-taken.result
    c.in_ok-ask.ensures.asked c.in_ok-ask.ensures.goes (rw c.body.ensures at c.take_leaf-taken.ensures.refused) c.take_leaf-taken.ensures.of_body)))

pub loop-number-preserved : goal.loop-number-preserved
loop-number-preserved g c =
    let d = c.args.survey.now.conf in
    let i = c.loop-number.number-index in
    let numbers = c.args.numbers.now in
    let number = get_or numbers i 0 in
    let tiles = c.take_leaf-taken.new.tiles in
    let own = c.leaf-request.ensures.ask ∙ asked_leaf d.shape.top number c.leaf_cell.result c.leaf_cell.ensures.order c.leaf_cell.ensures.npix in
    let put = rw (c.in_ok-taken.was, c.body.ensures) at c.take_leaf-taken.ensures.put in
    record {
      fits = put.fits;
      keys = put_keys d number (body_of c.ask.new.peer) c.loop-number.tiles tiles put ∙ ap (λ ks. ks ++ number ∷ []) c.loop-number.invariant.keys ∙ sym (take_more numbers i 0 c.loop-number-test.true);
      count = put_count d number (body_of c.ask.new.peer) c.loop-number.tiles tiles put ∙ ap (λ n. n + 1) c.loop-number.invariant.count;
      lower = λ k h below.
          lower_next numbers i k number (keys_of tiles) c.requires.ascending refl h below
          (put_higher d number (body_of c.ask.new.peer) c.loop-number.tiles tiles (c.loop-number.invariant.lower i (omega arith) c.loop-number-test.true) put);
      reached = leaf_reached g.S.Source g.K.Sink c.args.survey.now.pinned d numbers c.loop-number.tiles i c.loop-number-test.true c.args.peer.now c.loop-number.peer c.loop-number.invariant.reached c.leaf-request.result.ask c.ask.new.peer tiles own
          c.in_ok-ask.ensures.asked c.in_ok-ask.ensures.goes put;
      steps = omega (arith, c.take_leaf-taken.ensures.steps, c.loop-number.invariant.steps);
      rises = omega (arith, c.take_leaf-taken.ensures.steps_never_fall, c.loop-number.invariant.rises);
    }
