use Rattle.std.proofs.Common.{◌≡◌, ℕ, List, [], ◌∷◌, ◌++◌, ap, ◌∙◌}
use Rattle.std.proofs.lemmas.List.{append_assoc}
use Rattle.std.specs.Prelude.{decimal}
use Rattle.hips_catalog.proofs.text.push_line.Goals as goal

-- two parts appended one after the other
both : (w x z a s : List ℕ) → x ≡ w ++ a → z ≡ x ++ s → z ≡ w ++ (a ++ s)
both w x z a s e f = f ∙ ap (λ q. q ++ s) e ∙ append_assoc w a s

pub returns : goal.returns
returns c =
    let row = c.args.row.now in
    let w : List ℕ = c.args.text.now.items in
    let t1 : List ℕ = c.push_number.new.text.items in
    let t2 : List ℕ = c.push.new.self.items in
    let t3 : List ℕ = c.push_number-2.new.text.items in
    let t4 : List ℕ = c.push-2.new.self.items in
    let t5 : List ℕ = c.extend_from_slice.new.self.items in
    let t6 : List ℕ = c.push-3.new.self.items in
    let t7 : List ℕ = c.extend_from_slice-2.new.self.items in
    let z : List ℕ = c.push-4.new.self.items in
    let tab : List ℕ = 9 ∷ [] in
    let s6 : List ℕ = tab ++ row.rest in
    let s5 : List ℕ = row.id ++ s6 in
    let s4 : List ℕ = tab ++ s5 in
    let s3 : List ℕ = decimal row.npix ++ s4 in
    let s2 : List ℕ = tab ++ s3 in
    both w t7 z (decimal row.rank ++ s2) (10 ∷ [])
    (both w t1 t7 (decimal row.rank) s2 (c.in_ok-push_number.ensures ∙ ap (λ n. w ++ decimal n) c.rank.ensures)
    (both t1 t2 t7 tab s3 c.in_ok-push.ensures.items
    (both t2 t3 t7 (decimal row.npix) s4 (c.in_ok-push_number-2.ensures ∙ ap (λ n. t2 ++ decimal n) c.npix.ensures)
    (both t3 t4 t7 tab s5 c.in_ok-push-2.ensures.items
    (both t4 t5 t7 row.id s6 (c.in_ok-extend_from_slice.ensures.items ∙ ap (λ i. t4 ++ i) c.id.ensures)
    (both t5 t6 t7 tab row.rest c.in_ok-push-3.ensures.items
    (c.in_ok-extend_from_slice-2.ensures.items ∙ ap (λ i. t6 ++ i) c.rest.ensures)))))))
    c.in_ok-push-4.ensures.items
