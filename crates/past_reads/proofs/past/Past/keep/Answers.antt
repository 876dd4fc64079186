use Rattle.std.proofs.Common.{rules, ap}
use Rattle.std.specs.Prelude.{is_some}
use Rattle.std.specs.Arc.{arc_value}
use Rattle.lru.specs.LruCache.{LruCache}
use Rattle.past_reads.proofs.PastLemmas.{kept_put, content_put}
use Rattle.past_reads.proofs.past.Past.keep.Goals as goal

pub invariant_of-self-2 : goal.invariant_of-self-2
invariant_of-self-2 c = kept_put (λ generation. arc_value generation) c.args.self.now (arc_value c.self.inside.conf) c.self.inside.journal c.args.journal c.self.inside.opening c.self.inside.cache c.args.k c.args.generation c.put.new.self.entries c.put.new.self.cap
    c.self.view_is c.self.invariant c.requires.journal c.requires.whole c.requires.generation (ap (λ (l : LruCache _ _). l.entries) c.in_ok-put.ensures.entries) (ap (λ (l : LruCache _ _). l.cap) c.in_ok-put.ensures.entries)

pub returns-clause-held : goal.returns-clause-held
returns-clause-held c =
    let seen = content_put c.args.self.now (arc_value c.self.inside.conf) (is_some c.self.inside.opening) c.self.inside.journal c.args.journal c.self.inside.cache c.args.k c.args.generation c.put.new.self.entries c.put.new.self.cap
    c.self.view_is c.len-count.ensures.valid c.requires.journal (ap (λ (l : LruCache _ _). l.entries) c.in_ok-put.ensures.entries) (ap (λ (l : LruCache _ _). l.cap) c.in_ok-put.ensures.entries) in
    search (rules, seen)
