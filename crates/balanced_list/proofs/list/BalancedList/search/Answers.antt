use Rattle.std.proofs.Common.{◌≡◌, ℕ, ◌+◌, ◌∷◌, ◌++◌, length, Some, option_copied, sym, ap, ◌∙◌, subst, arith, rules}
use Rattle.balanced_list.proofs.Parts.{IsPart, to_right, to_left, joined_length}
use Rattle.balanced_list.proofs.list.BalancedList.search.Goals as goal

pub overflow_add-before-then-is_past : goal.overflow_add-before-then-is_past
overflow_add-before-then-is_past g c =
    let node = c.in-Fork.node.value in
    let is : c.down.part.now ≡ node.left ++ node.item ∷ node.right = search rules in
    let parts : length c.down.part.now ≡ length node.left + 1 + length node.right = ap length is ∙ joined_length node.left node.right node.item in
    let len : c.len.result ≡ length node.left = c.len.ensures ∙ ap (λ n. length n.left) c.deref-then-is_past.ensures in
    let fits = c.down.invariant.fits in
    omega (arith, parts, len, fits, c.len-len.ensures)

pub down-preserved-then-is_past : goal.down-preserved-then-is_past
down-preserved-then-is_past g c =
    let node = c.in-Fork.node.value in
    let test = g.P.Probe.past c.args.probe.now in
    let is : c.down.part.now ≡ node.left ++ node.item ∷ node.right = search rules in
    let holds = ap test (sym (ap (λ n. n.item) c.deref.ensures)) ∙ sym c.is_past.ensures ∙ c.if-is_past.true in
    subst (λ r. IsPart test c.args.self.now (c.down.before + (c.len.result + 1)) r (option_copied c.down.there)) (sym (ap (λ n. n.right) c.deref-then-is_past-2.ensures))
    (to_right test c.args.self.now node.left node.right c.down.part.now node.item c.down.before (option_copied c.down.there) is c.down.invariant
    (c.len.result + 1) (ap (λ (n : ℕ). n + 1) (c.len.ensures ∙ ap (λ n. length n.left) c.deref-then-is_past.ensures)) holds)

pub down-preserved : goal.down-preserved
down-preserved g c =
    let node = c.in-Fork.node.value in
    let test = g.P.Probe.past c.args.probe.now in
    let is : c.down.part.now ≡ node.left ++ node.item ∷ node.right = search rules in
    let fails = ap test (sym (ap (λ n. n.item) c.deref.ensures)) ∙ sym c.is_past.ensures ∙ c.if-is_past.false in
    subst (λ l. IsPart test c.args.self.now c.down.before l (Some c.deref-else-is_past.result.now.item)) (sym (ap (λ n. n.left) c.deref-else-is_past-2.ensures))
    (subst (λ x. IsPart test c.args.self.now c.down.before node.left (Some x)) (sym (ap (λ n. n.item) c.deref-else-is_past.ensures))
    (to_left test c.args.self.now node.left node.right c.down.part.now node.item c.down.before (option_copied c.down.there) is c.down.invariant fails))
