use Rattle.std.proofs.Common.{List, [], ◌∷◌, ◌++◌, ◌≡◌, ◌<◌, map, length, sym, ap, ◌∙◌, ◌+◌, ℕ, arith}
use Rattle.std.proofs.lemmas.List.{length-map, map-append}
use Rattle.edit_journal.specs.declared.edit.Edit.{Edit}
use Rattle.edit_journal.specs.Edit.{edit_of}
use Rattle.survey_core.specs.BatchBody.{read_so_far, entry, entry_tiles, tiles_of}
use Rattle.survey_core.proofs.BatchLemmas.{so_far-many, so_far-fault, so_far-more, so_far-tiles, tiles_of-push, steps_more}
use Rattle.survey_core.proofs.batch.read_next.Goals as goal

pushed : (old reserved new : List Edit) (edit : Edit) → reserved ≡ old → new ≡ reserved ++ edit ∷ [] → map edit_of new ≡ map edit_of old ++ edit_of edit ∷ []
pushed old reserved new edit same is = ap (map edit_of) (is ∙ ap (λ front. front ++ edit ∷ []) same) ∙ map-append edit_of old (edit ∷ [])

pub returns-then-len-eq-MOST_ENTRIES-clause-refused : goal.returns-then-len-eq-MOST_ENTRIES-clause-refused
returns-then-len-eq-MOST_ENTRIES-clause-refused c =
    let items = c.args.edits.now.items in
    let full : length (map edit_of items) ≡ 1024 = omega (arith, length-map items edit_of) in
    let ends = so_far-many c.args.conf.now (map edit_of items) c.args.bytes.now full c.requires.some in
    (omega (arith, length-map items edit_of, ends.place_is), ends.fault_is)

pub returns-in-Ok-clause-read : goal.returns-in-Ok-clause-read
returns-in-Ok-clause-read c =
    let items = c.args.edits.now.items in
    let room : length (map edit_of items) < 1024 = omega (arith, length-map items edit_of) in
    ap (λ all. read_so_far c.args.conf.now all c.in-Ok.rest.now) (pushed items c.reserve.new.self.items c.push_reserved.new.self.items c.in-Ok.edit c.reserve.ensures.items c.push_reserved.ensures.items)
    ∙ so_far-more c.args.conf.now (map edit_of items) c.args.bytes.now (edit_of c.in-Ok.edit) c.in-Ok.rest.now room c.requires.some c.in-Ok.ensures.read

pub returns-in-Err-Fault-clause-refused : goal.returns-in-Err-Fault-clause-refused
returns-in-Err-Fault-clause-refused c =
    let items = c.args.edits.now.items in
    let room : length (map edit_of items) < 1024 = omega (arith, length-map items edit_of) in
    let ends = so_far-fault c.args.conf.now (map edit_of items) c.args.bytes.now c.in-Err-Fault.fault room c.requires.some (rw c.in-Err-Fault.field-0-is at c.in-Err-Fault.ensures.refused) in
    (omega (arith, length-map items edit_of, ends.place_is), ends.fault_is)

pub returns-in-Err-OutOfMemory-clause-at_most : goal.returns-in-Err-OutOfMemory-clause-at_most
returns-in-Err-OutOfMemory-clause-at_most c =
    let items = c.args.edits.now.items in
    let room : length (map edit_of items) < 1024 = omega (arith, length-map items edit_of) in
    let tiles = so_far-tiles c.args.conf.now (map edit_of items) c.args.bytes.now room c.requires.some in
    omega (arith, tiles, c.read_entry.ensures.at_most)

pub returns-in-Ok-clause-steps : goal.returns-in-Ok-clause-steps
returns-in-Ok-clause-steps c = λ count begun.
    let items = c.args.edits.now.items in
    let front : ℕ = tiles_of (map edit_of items) in
    let here = entry_tiles (entry c.args.conf.now c.args.bytes.now) in
    let all = pushed items c.reserve.new.self.items c.push_reserved.new.self.items c.in-Ok.edit c.reserve.ensures.items c.push_reserved.ensures.items in
    let tiles : tiles_of (map edit_of c.push_reserved.new.self.items) ≡ front + here =
    ap tiles_of all ∙ tiles_of-push (map edit_of items) (edit_of c.in-Ok.edit) c.in-Ok.rest.now ∙ ap (λ read. front + entry_tiles read) (sym c.in-Ok.ensures.read) in
    steps_more count front here _ _ _ begun c.in-Ok.ensures.steps tiles
