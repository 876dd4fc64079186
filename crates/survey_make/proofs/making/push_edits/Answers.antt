use Rattle.std.proofs.Common.{◌≡◌, sym, ◌∙◌, ap, List, ℕ, ◌+◌, ◌++◌, append_assoc}
use Rattle.std.proofs.lemmas.List.{append-nil}
use Rattle.survey_make.specs.Script.{next_number, edit_requests, number_of, requests_to}
use Rattle.survey_make.proofs.ScriptLemmas.{number_of-more, requests_to-more, number_of-none, requests_to-none}
use Rattle.survey_make.proofs.making.push_edits.Goals as goal

pub loop-before-init : goal.loop-before-init
loop-before-init c = record {
  made_so_far = sym (ap (λ (bytes : List ℕ). c.args.script.now.items ++ bytes) (requests_to-none c.args.number) ∙ append-nil c.args.script.now.items);
  x_is = sym (number_of-none c.args.number);
}

pub loop-before-preserved : goal.loop-before-preserved
loop-before-preserved c =
    let before : ℕ = c.loop-before.before in
    let old : List ℕ = c.args.script.now.items in
    let so_far : List ℕ = requests_to c.args.number before in
    let x_is : c.next_number-x.result ≡ number_of c.args.number (before + 1) = c.next_number-x.ensures ∙ (ap next_number c.loop-before.invariant.x_is ∙ sym (number_of-more c.args.number before)) in
    let added : List ℕ = edit_requests (before + 1) c.next_number-x.result in
    record {
      made_so_far = c.in_ok-push_edit.ensures ∙ (ap (λ (bytes : List ℕ). bytes ++ added) c.loop-before.invariant.made_so_far ∙ (append_assoc old so_far added
          ∙ ap (λ (bytes : List ℕ). old ++ bytes) (ap (λ (x : ℕ). so_far ++ edit_requests (before + 1) x) x_is ∙ sym (requests_to-more c.args.number before))));
      x_is = x_is;
    }
