use Rattle.std.proofs.Common.{◌≡◌, ◌+◌, ◌<◌, ◌≤◌, ◌^◌, ◌∙◌, [], inr, refl, sym, ap, subst, arith, length}
use Rattle.std.specs.Map.{keys_of}
use Rattle.std.proofs.lemmas.Map.Entries.{length-keys_of}
use Rattle.std.proofs.lemmas.Result.{err_from_is_err_and}
use Rattle.shelf_io.proofs.LoadLemmas.{if_err_from}
use Rattle.generation.specs.Files.{leaf_map}
use Rattle.generation.specs.Generation.{GenerationContent}
use Rattle.mirror_frame.specs.Requests.{asks}
use Rattle.mirror_frame.specs.Reply.{IsReply}
use Rattle.mirror_frame.specs.Peer.{body_of}
use Rattle.mirror_frame.specs.declared.ask.Ask.TheVariants.{Unpin}
use Rattle.mirror_frame.specs.declared.due.Due.TheVariants.{Any}
use Rattle.hips_mirror.specs.Mirror.{IsCopy}
use Rattle.hips_mirror.specs.Stages.{IsRefused, Reaches, unpin_request}
use Rattle.hips_mirror.proofs.ToldLemmas.{err_given, of_err, of_ok, given_ok}
use Rattle.hips_mirror.proofs.StepsLemmas.{leaves_few}
use Rattle.hips_mirror.proofs.StageLemmas.{one_refused, one_reached}
use Rattle.hips_mirror.proofs.CopyLemmas.{fits_most, stops_at_description, stops_at_cover, reaches_cover, told_numbers, stops_at_leaves, reaches_leaves, stops_at_mosaic, reaches_files, stops_at_files, stops_at_unpin, copied_whole, built_wrong, built_of_body, mosaic_wrong, mosaic_of_body, mosaic_is, some_ask}
use Rattle.hips_mirror.proofs.copying.copy_from.Goals as goal

pub returns-in_err-survey-clause-refused : goal.returns-in_err-survey-clause-refused
returns-in_err-survey-clause-refused g c =
    let x = c.args.peer.now in
    let stopped = c.in_err-survey.ensures.refused in
    if_err_from (IsRefused g.S.Source g.K.Sink x c.read_description.new.peer) c.from_residual.result c.in_err-survey.field-0.0 (err_from_is_err_and c.from_residual.result c.from_residual.ensures.1)
    (stops_at_description g.S.Source g.K.Sink stopped.0 x c.read_description.new.peer c.in_err-survey.field-0.0 stopped.1)

pub returns-in_err-numbers-clause-refused : goal.returns-in_err-numbers-clause-refused
returns-in_err-numbers-clause-refused g c =
    let x = c.args.peer.now in
    let s = c.in_ok-survey.survey in
    if_err_from (IsRefused g.S.Source g.K.Sink x c.read_cover.new.peer) c.from_residual-in_err-numbers.result c.in_err-numbers.field-0.0 (err_from_is_err_and c.from_residual-in_err-numbers.result c.from_residual-in_err-numbers.ensures.1)
    (stops_at_cover g.S.Source g.K.Sink s.pinned s.conf s.counted x c.read_description.new.peer c.read_cover.new.peer c.in_err-numbers.field-0.0 c.in_ok-survey.ensures.reached c.in_err-numbers.ensures.refused)

pub read_leaves-requires-clause-ascending : goal.read_leaves-requires-clause-ascending
read_leaves-requires-clause-ascending g c =
    rw c.deref.ensures.value c.in_ok-numbers.ensures.ascending

pub returns-in_err-leaves-clause-refused : goal.returns-in_err-leaves-clause-refused
returns-in_err-leaves-clause-refused g c =
    let x = c.args.peer.now in
    let s = c.in_ok-survey.survey in
    let ns = c.in_ok-numbers.numbers.items in
    let covered = reaches_cover g.S.Source g.K.Sink s.pinned s.conf s.counted x ns c.read_description.new.peer c.read_cover.new.peer c.in_ok-numbers.ensures.fits c.in_ok-survey.ensures.reached c.in_ok-numbers.ensures.reached in
    if_err_from (IsRefused g.S.Source g.K.Sink x c.read_leaves.new.peer) c.from_residual-in_err-leaves.result c.in_err-leaves.field-0.0 (err_from_is_err_and c.from_residual-in_err-leaves.result c.from_residual-in_err-leaves.ensures.1)
    (stops_at_leaves g.S.Source g.K.Sink s.pinned s.conf s.counted x ns c.read_cover.new.peer c.read_leaves.new.peer c.in_err-leaves.field-0.0 covered (rw c.deref.ensures.value at c.in_err-leaves.ensures.refused))

pub returns-in_err-leaves-clause-steps : goal.returns-in_err-leaves-clause-steps
returns-in_err-leaves-clause-steps g c =
    let x = c.args.peer.now in
    let s = c.in_ok-survey.survey in
    let ns = c.in_ok-numbers.numbers.items in
    let covered = reaches_cover g.S.Source g.K.Sink s.pinned s.conf s.counted x ns c.read_description.new.peer c.read_cover.new.peer c.in_ok-numbers.ensures.fits c.in_ok-survey.ensures.reached c.in_ok-numbers.ensures.reached in
    err_given c.from_residual-in_err-leaves.result _ (inr (record {
      shape = s.conf.shape;
      numbers = ns;
      told = told_numbers g.S.Source g.K.Sink s.pinned s.conf s.counted x ns c.read_cover.new.peer covered;
      few = let taken : c.read_leaves.new.steps ≤ c.args.steps.now + length ns = rw c.deref.ensures.value at c.read_leaves.ensures.steps in omega (arith, taken);
    }))

pub read_mosaic-requires : goal.read_mosaic-requires
read_mosaic-requires g c =
    let x = c.args.peer.now in
    let s = c.in_ok-survey.survey in
    let ns = c.in_ok-numbers.numbers.items in
    let covered = reaches_cover g.S.Source g.K.Sink s.pinned s.conf s.counted x ns c.read_description.new.peer c.read_cover.new.peer c.in_ok-numbers.ensures.fits c.in_ok-survey.ensures.reached c.in_ok-numbers.ensures.reached in
    let ts = c.in_ok-leaves.leaves in
    let keys : keys_of ts ≡ ns = c.in_ok-leaves.ensures.keys ∙ c.deref.ensures.value in
    let has = reaches_leaves g.S.Source g.K.Sink s.pinned s.conf s.counted x ns ts keys c.read_cover.new.peer c.read_leaves.new.peer covered (rw c.deref.ensures.value at c.in_ok-leaves.ensures.reached) in
    let most : length ts ≤ 65000 = omega (arith, length-keys_of ts, ap length keys, fits_most s.conf.shape (length ns) c.in_ok-numbers.ensures.fits) in
    omega (arith, c.len-count.ensures.pairs, most)

pub returns-in_err-read_mosaic-clause-refused : goal.returns-in_err-read_mosaic-clause-refused
returns-in_err-read_mosaic-clause-refused g c =
    let x = c.args.peer.now in
    let s = c.in_ok-survey.survey in
    let ns = c.in_ok-numbers.numbers.items in
    let covered = reaches_cover g.S.Source g.K.Sink s.pinned s.conf s.counted x ns c.read_description.new.peer c.read_cover.new.peer c.in_ok-numbers.ensures.fits c.in_ok-survey.ensures.reached c.in_ok-numbers.ensures.reached in
    let ts = c.in_ok-leaves.leaves in
    let keys : keys_of ts ≡ ns = c.in_ok-leaves.ensures.keys ∙ c.deref.ensures.value in
    let has = reaches_leaves g.S.Source g.K.Sink s.pinned s.conf s.counted x ns ts keys c.read_cover.new.peer c.read_leaves.new.peer covered (rw c.deref.ensures.value at c.in_ok-leaves.ensures.reached) in
    let most : length ts ≤ 65000 = omega (arith, length-keys_of ts, ap length keys, fits_most s.conf.shape (length ns) c.in_ok-numbers.ensures.fits) in
    if_err_from (IsRefused g.S.Source g.K.Sink x c.read_mosaic.new.peer) c.from_residual-in_err-read_mosaic.result c.in_err-read_mosaic.field-0.0 (err_from_is_err_and c.from_residual-in_err-read_mosaic.result c.from_residual-in_err-read_mosaic.ensures.1)
    (stops_at_mosaic g.S.Source g.K.Sink s.pinned s.conf s.counted x ns ts keys c.read_leaves.new.peer c.read_mosaic.new.peer c.in_err-read_mosaic.field-0.0 has (rw c.len-count.ensures.pairs at c.in_err-read_mosaic.ensures.refused))

pub returns-in_err-read_mosaic-clause-steps : goal.returns-in_err-read_mosaic-clause-steps
returns-in_err-read_mosaic-clause-steps g c =
    let x = c.args.peer.now in
    let s = c.in_ok-survey.survey in
    let ns = c.in_ok-numbers.numbers.items in
    let covered = reaches_cover g.S.Source g.K.Sink s.pinned s.conf s.counted x ns c.read_description.new.peer c.read_cover.new.peer c.in_ok-numbers.ensures.fits c.in_ok-survey.ensures.reached c.in_ok-numbers.ensures.reached in
    err_given c.from_residual-in_err-read_mosaic.result _ (inr (record {
      shape = s.conf.shape;
      numbers = ns;
      told = told_numbers g.S.Source g.K.Sink s.pinned s.conf s.counted x ns c.read_cover.new.peer covered;
      few = let taken : c.read_leaves.new.steps ≤ c.args.steps.now + length ns = rw c.deref.ensures.value at c.read_leaves.ensures.steps in omega (arith, taken);
    }))

pub mosaic-requires : goal.mosaic-requires
mosaic-requires g c =
    let x = c.args.peer.now in
    let s = c.in_ok-survey.survey in
    let ns = c.in_ok-numbers.numbers.items in
    let covered = reaches_cover g.S.Source g.K.Sink s.pinned s.conf s.counted x ns c.read_description.new.peer c.read_cover.new.peer c.in_ok-numbers.ensures.fits c.in_ok-survey.ensures.reached c.in_ok-numbers.ensures.reached in
    let ts = c.in_ok-leaves.leaves in
    let keys : keys_of ts ≡ ns = c.in_ok-leaves.ensures.keys ∙ c.deref.ensures.value in
    let has = reaches_leaves g.S.Source g.K.Sink s.pinned s.conf s.counted x ns ts keys c.read_cover.new.peer c.read_leaves.new.peer covered (rw c.deref.ensures.value at c.in_ok-leaves.ensures.reached) in
    let most : length ts ≤ 65000 = omega (arith, length-keys_of ts, ap length keys, fits_most s.conf.shape (length ns) c.in_ok-numbers.ensures.fits) in
    omega (arith, c.len-count.ensures.pairs, most)

pub returns-in_err-generation-clause-refused : goal.returns-in_err-generation-clause-refused
returns-in_err-generation-clause-refused g c =
    let x = c.args.peer.now in
    let s = c.in_ok-survey.survey in
    let ns = c.in_ok-numbers.numbers.items in
    let covered = reaches_cover g.S.Source g.K.Sink s.pinned s.conf s.counted x ns c.read_description.new.peer c.read_cover.new.peer c.in_ok-numbers.ensures.fits c.in_ok-survey.ensures.reached c.in_ok-numbers.ensures.reached in
    let ts = c.in_ok-leaves.leaves in
    let keys : keys_of ts ≡ ns = c.in_ok-leaves.ensures.keys ∙ c.deref.ensures.value in
    let has = reaches_leaves g.S.Source g.K.Sink s.pinned s.conf s.counted x ns ts keys c.read_cover.new.peer c.read_leaves.new.peer covered (rw c.deref.ensures.value at c.in_ok-leaves.ensures.reached) in
    let most : length ts ≤ 65000 = omega (arith, length-keys_of ts, ap length keys, fits_most s.conf.shape (length ns) c.in_ok-numbers.ensures.fits) in
    let count : c.len-count.result ≡ length ts = c.len-count.ensures.pairs in
    let body = body_of c.read_mosaic.new.peer in
    let came = reaches_files g.S.Source g.K.Sink s.pinned s.conf s.counted x ns ts keys body c.read_leaves.new.peer c.read_mosaic.new.peer has (rw count at c.in_ok-read_mosaic.ensures.reached) in
    let few : length ts < 2 ^ 64 = omega (arith, most) in
    let why = c.in_err-generation.field-0.0 in
    let wrong = of_err c.build-built.result why _ c.in_err-generation.was c.build-built.ensures.refused in
    if_err_from (IsRefused g.S.Source g.K.Sink x c.read_mosaic.new.peer) c.from_residual-in_err-generation.result why (err_from_is_err_and c.from_residual-in_err-generation.result c.from_residual-in_err-generation.ensures.1)
    (stops_at_files g.S.Source g.K.Sink s.pinned s.conf s.counted x ns ts keys body c.read_mosaic.new.peer why (built_of_body why _ wrong) (built_wrong s.pinned s.conf s.counted ts body why few wrong) came)

pub returns-in_err-generation-clause-steps : goal.returns-in_err-generation-clause-steps
returns-in_err-generation-clause-steps g c =
    let x = c.args.peer.now in
    let s = c.in_ok-survey.survey in
    let ns = c.in_ok-numbers.numbers.items in
    let covered = reaches_cover g.S.Source g.K.Sink s.pinned s.conf s.counted x ns c.read_description.new.peer c.read_cover.new.peer c.in_ok-numbers.ensures.fits c.in_ok-survey.ensures.reached c.in_ok-numbers.ensures.reached in
    let ts = c.in_ok-leaves.leaves in
    let keys : keys_of ts ≡ ns = c.in_ok-leaves.ensures.keys ∙ c.deref.ensures.value in
    let taken : c.read_leaves.new.steps ≤ c.args.steps.now + length ns = rw c.deref.ensures.value at c.read_leaves.ensures.steps in
    let both = leaves_few s.conf.shape ts ns c.args.steps.now c.read_leaves.new.steps c.build-built.new.steps keys taken c.build-built.ensures.steps in
    err_given c.from_residual-in_err-generation.result _ (inr (record {
      shape = s.conf.shape;
      numbers = ns;
      told = told_numbers g.S.Source g.K.Sink s.pinned s.conf s.counted x ns c.read_cover.new.peer covered;
      few = both.1;
    }))

pub returns-in_err-compared-clause-steps : goal.returns-in_err-compared-clause-steps
returns-in_err-compared-clause-steps g c =
    let x = c.args.peer.now in
    let s = c.in_ok-survey.survey in
    let ns = c.in_ok-numbers.numbers.items in
    let covered = reaches_cover g.S.Source g.K.Sink s.pinned s.conf s.counted x ns c.read_description.new.peer c.read_cover.new.peer c.in_ok-numbers.ensures.fits c.in_ok-survey.ensures.reached c.in_ok-numbers.ensures.reached in
    let ts = c.in_ok-leaves.leaves in
    let keys : keys_of ts ≡ ns = c.in_ok-leaves.ensures.keys ∙ c.deref.ensures.value in
    let taken : c.read_leaves.new.steps ≤ c.args.steps.now + length ns = rw c.deref.ensures.value at c.read_leaves.ensures.steps in
    let both = leaves_few s.conf.shape ts ns c.args.steps.now c.read_leaves.new.steps c.build-built.new.steps keys taken c.build-built.ensures.steps in
    err_given c.from_residual-in_err-compared.result _ (inr (record {
      shape = s.conf.shape;
      numbers = ns;
      told = told_numbers g.S.Source g.K.Sink s.pinned s.conf s.counted x ns c.read_cover.new.peer covered;
      few = both.1;
    }))

pub returns-in_err-ask-clause-steps : goal.returns-in_err-ask-clause-steps
returns-in_err-ask-clause-steps g c =
    let x = c.args.peer.now in
    let s = c.in_ok-survey.survey in
    let ns = c.in_ok-numbers.numbers.items in
    let covered = reaches_cover g.S.Source g.K.Sink s.pinned s.conf s.counted x ns c.read_description.new.peer c.read_cover.new.peer c.in_ok-numbers.ensures.fits c.in_ok-survey.ensures.reached c.in_ok-numbers.ensures.reached in
    let ts = c.in_ok-leaves.leaves in
    let keys : keys_of ts ≡ ns = c.in_ok-leaves.ensures.keys ∙ c.deref.ensures.value in
    let taken : c.read_leaves.new.steps ≤ c.args.steps.now + length ns = rw c.deref.ensures.value at c.read_leaves.ensures.steps in
    let both = leaves_few s.conf.shape ts ns c.args.steps.now c.read_leaves.new.steps c.build-built.new.steps keys taken c.build-built.ensures.steps in
    err_given c.from_residual-in_err-ask.result _ (inr (record {
      shape = s.conf.shape;
      numbers = ns;
      told = told_numbers g.S.Source g.K.Sink s.pinned s.conf s.counted x ns c.read_cover.new.peer covered;
      few = both.1;
    }))

pub mosaic-requires-2 : goal.mosaic-requires-2
mosaic-requires-2 g c =
    let x = c.args.peer.now in
    let s = c.in_ok-survey.survey in
    let ns = c.in_ok-numbers.numbers.items in
    let covered = reaches_cover g.S.Source g.K.Sink s.pinned s.conf s.counted x ns c.read_description.new.peer c.read_cover.new.peer c.in_ok-numbers.ensures.fits c.in_ok-survey.ensures.reached c.in_ok-numbers.ensures.reached in
    let ts = c.in_ok-leaves.leaves in
    let keys : keys_of ts ≡ ns = c.in_ok-leaves.ensures.keys ∙ c.deref.ensures.value in
    let has = reaches_leaves g.S.Source g.K.Sink s.pinned s.conf s.counted x ns ts keys c.read_cover.new.peer c.read_leaves.new.peer covered (rw c.deref.ensures.value at c.in_ok-leaves.ensures.reached) in
    let most : length ts ≤ 65000 = omega (arith, length-keys_of ts, ap length keys, fits_most s.conf.shape (length ns) c.in_ok-numbers.ensures.fits) in
    omega (arith, c.len-count.ensures.pairs, most)

pub unpin-requires : goal.unpin-requires
unpin-requires g c =
    let x = c.args.peer.now in
    let s = c.in_ok-survey.survey in
    let ns = c.in_ok-numbers.numbers.items in
    let covered = reaches_cover g.S.Source g.K.Sink s.pinned s.conf s.counted x ns c.read_description.new.peer c.read_cover.new.peer c.in_ok-numbers.ensures.fits c.in_ok-survey.ensures.reached c.in_ok-numbers.ensures.reached in
    let ts = c.in_ok-leaves.leaves in
    let keys : keys_of ts ≡ ns = c.in_ok-leaves.ensures.keys ∙ c.deref.ensures.value in
    let has = reaches_leaves g.S.Source g.K.Sink s.pinned s.conf s.counted x ns ts keys c.read_cover.new.peer c.read_leaves.new.peer covered (rw c.deref.ensures.value at c.in_ok-leaves.ensures.reached) in
    let most : length ts ≤ 65000 = omega (arith, length-keys_of ts, ap length keys, fits_most s.conf.shape (length ns) c.in_ok-numbers.ensures.fits) in
    omega (arith, c.len-count.ensures.pairs, most)

pub returns-in_err-compared-clause-refused : goal.returns-in_err-compared-clause-refused
returns-in_err-compared-clause-refused g c =
    let x = c.args.peer.now in
    let s = c.in_ok-survey.survey in
    let ns = c.in_ok-numbers.numbers.items in
    let covered = reaches_cover g.S.Source g.K.Sink s.pinned s.conf s.counted x ns c.read_description.new.peer c.read_cover.new.peer c.in_ok-numbers.ensures.fits c.in_ok-survey.ensures.reached c.in_ok-numbers.ensures.reached in
    let ts = c.in_ok-leaves.leaves in
    let keys : keys_of ts ≡ ns = c.in_ok-leaves.ensures.keys ∙ c.deref.ensures.value in
    let has = reaches_leaves g.S.Source g.K.Sink s.pinned s.conf s.counted x ns ts keys c.read_cover.new.peer c.read_leaves.new.peer covered (rw c.deref.ensures.value at c.in_ok-leaves.ensures.reached) in
    let most : length ts ≤ 65000 = omega (arith, length-keys_of ts, ap length keys, fits_most s.conf.shape (length ns) c.in_ok-numbers.ensures.fits) in
    let count : c.len-count.result ≡ length ts = c.len-count.ensures.pairs in
    let body = body_of c.read_mosaic.new.peer in
    let came = reaches_files g.S.Source g.K.Sink s.pinned s.conf s.counted x ns ts keys body c.read_leaves.new.peer c.read_mosaic.new.peer has (rw count at c.in_ok-read_mosaic.ensures.reached) in
    let few : length ts < 2 ^ 64 = omega (arith, most) in
    let made = of_ok c.build-built.result c.in_ok-generation.generation _ c.in_ok-generation.was c.build-built.ensures.made in
    let told = of_ok c.build-built.result c.in_ok-generation.generation _ c.in_ok-generation.was (given_ok c.build-built.result _ c.build-built.ensures.counted) in
    let why = c.in_err-compared.field-0.0 in
    let wrong = of_err c.compare_mosaic-compared.result why _ c.in_err-compared.was (rw c.body.ensures at c.compare_mosaic-compared.ensures.refused) in
    if_err_from (IsRefused g.S.Source g.K.Sink x c.read_mosaic.new.peer) c.from_residual-in_err-compared.result why (err_from_is_err_and c.from_residual-in_err-compared.result c.from_residual-in_err-compared.ensures.1)
    (stops_at_files g.S.Source g.K.Sink s.pinned s.conf s.counted x ns ts keys body c.read_mosaic.new.peer why (mosaic_of_body why _ _ wrong)
    (mosaic_wrong s.pinned s.conf s.counted ts c.in_ok-generation.generation body why few made told wrong) came)

pub returns-in_err-ask-clause-refused : goal.returns-in_err-ask-clause-refused
returns-in_err-ask-clause-refused g c =
    let x = c.args.peer.now in
    let s = c.in_ok-survey.survey in
    let ns = c.in_ok-numbers.numbers.items in
    let covered = reaches_cover g.S.Source g.K.Sink s.pinned s.conf s.counted x ns c.read_description.new.peer c.read_cover.new.peer c.in_ok-numbers.ensures.fits c.in_ok-survey.ensures.reached c.in_ok-numbers.ensures.reached in
    let ts = c.in_ok-leaves.leaves in
    let keys : keys_of ts ≡ ns = c.in_ok-leaves.ensures.keys ∙ c.deref.ensures.value in
    let has = reaches_leaves g.S.Source g.K.Sink s.pinned s.conf s.counted x ns ts keys c.read_cover.new.peer c.read_leaves.new.peer covered (rw c.deref.ensures.value at c.in_ok-leaves.ensures.reached) in
    let most : length ts ≤ 65000 = omega (arith, length-keys_of ts, ap length keys, fits_most s.conf.shape (length ns) c.in_ok-numbers.ensures.fits) in
    let count : c.len-count.result ≡ length ts = c.len-count.ensures.pairs in
    let body = body_of c.read_mosaic.new.peer in
    let came = reaches_files g.S.Source g.K.Sink s.pinned s.conf s.counted x ns ts keys body c.read_leaves.new.peer c.read_mosaic.new.peer has (rw count at c.in_ok-read_mosaic.ensures.reached) in
    let few : length ts < 2 ^ 64 = omega (arith, most) in
    let made = of_ok c.build-built.result c.in_ok-generation.generation _ c.in_ok-generation.was c.build-built.ensures.made in
    let told = of_ok c.build-built.result c.in_ok-generation.generation _ c.in_ok-generation.was (given_ok c.build-built.result _ c.build-built.ensures.counted) in
    let same = mosaic_is s.conf ts c.in_ok-generation.generation body made (rw (c.in_ok-compared.was, c.body.ensures) at c.compare_mosaic-compared.ensures.same) in
    let why = c.in_err-ask.field-0.0 in
    let at = c.unpin.ensures.number ∙ ap unpin_request count in
    if_err_from (IsRefused g.S.Source g.K.Sink x c.ask.new.peer) c.from_residual-in_err-ask.result why (err_from_is_err_and c.from_residual-in_err-ask.result c.from_residual-in_err-ask.ensures.1)
    (stops_at_unpin g.S.Source g.K.Sink s.pinned s.conf s.counted x ns ts keys body few told same c.read_mosaic.new.peer c.ask.new.peer came why
    (one_refused g.S.Source g.K.Sink s.pinned Unpin c.unpin.result.ask Any c.read_mosaic.new.peer c.ask.new.peer c.unpin.ensures.ask refl c.unpin.result.number (unpin_request (length ts)) why at
    c.in_err-ask.ensures.asked c.in_err-ask.ensures.refused c.in_err-ask.ensures.goes) (λ none. some_ask Unpin [] none))

pub returns-clause-copied : goal.returns-clause-copied
returns-clause-copied g c =
    let x = c.args.peer.now in
    let s = c.in_ok-survey.survey in
    let ns = c.in_ok-numbers.numbers.items in
    let covered = reaches_cover g.S.Source g.K.Sink s.pinned s.conf s.counted x ns c.read_description.new.peer c.read_cover.new.peer c.in_ok-numbers.ensures.fits c.in_ok-survey.ensures.reached c.in_ok-numbers.ensures.reached in
    let ts = c.in_ok-leaves.leaves in
    let keys : keys_of ts ≡ ns = c.in_ok-leaves.ensures.keys ∙ c.deref.ensures.value in
    let has = reaches_leaves g.S.Source g.K.Sink s.pinned s.conf s.counted x ns ts keys c.read_cover.new.peer c.read_leaves.new.peer covered (rw c.deref.ensures.value at c.in_ok-leaves.ensures.reached) in
    let most : length ts ≤ 65000 = omega (arith, length-keys_of ts, ap length keys, fits_most s.conf.shape (length ns) c.in_ok-numbers.ensures.fits) in
    let count : c.len-count.result ≡ length ts = c.len-count.ensures.pairs in
    let body = body_of c.read_mosaic.new.peer in
    let came = reaches_files g.S.Source g.K.Sink s.pinned s.conf s.counted x ns ts keys body c.read_leaves.new.peer c.read_mosaic.new.peer has (rw count at c.in_ok-read_mosaic.ensures.reached) in
    let few : length ts < 2 ^ 64 = omega (arith, most) in
    let made = of_ok c.build-built.result c.in_ok-generation.generation _ c.in_ok-generation.was c.build-built.ensures.made in
    let told = of_ok c.build-built.result c.in_ok-generation.generation _ c.in_ok-generation.was (given_ok c.build-built.result _ c.build-built.ensures.counted) in
    let same = mosaic_is s.conf ts c.in_ok-generation.generation body made (rw (c.in_ok-compared.was, c.body.ensures) at c.compare_mosaic-compared.ensures.same) in
    let reply = body_of c.ask.new.peer in
    let whole = copied_whole g.S.Source g.K.Sink s.pinned s.conf s.counted x ns ts keys body few told same c.read_mosaic.new.peer c.ask.new.peer came reply
    (one_reached g.S.Source g.K.Sink s.pinned Unpin c.unpin.result.ask Any c.read_mosaic.new.peer c.ask.new.peer c.unpin.ensures.ask refl (λ bytes rest. IsReply Any bytes reply rest)
    (λ p q r. r) c.in_ok-ask.ensures.asked c.in_ok-ask.ensures.goes) in (
      s.pinned,
      subst (λ (made : GenerationContent). Reaches g.S.Source g.K.Sink s.pinned (asks made.conf.shape.top (keys_of made.leaves)) (λ bytes rest. IsCopy bytes made.conf (leaf_map made.leaves)) x c.ask.new.peer) (sym made)
          (subst (λ ks. Reaches g.S.Source g.K.Sink s.pinned (asks s.conf.shape.top ks) (λ bytes rest. IsCopy bytes s.conf (leaf_map ts)) x c.ask.new.peer) (sym keys) whole),
    )
