use Rattle.std.proofs.Common.{refl}
use Rattle.hips_http.proofs.answer.answer.Goals as goal

pub returns-in-NotAllowed-clause-serves : goal.returns-in-NotAllowed-clause-serves
returns-in-NotAllowed-clause-serves g c = λ path. rw c.in-NotAllowed.is (c.not_allowed.ensures _ _)

pub returns-in-Publish-clause-serves : goal.returns-in-Publish-clause-serves
returns-in-Publish-clause-serves g c = λ path. rw c.in-Publish.is (c.publish.ensures.serves _)

pub returns-in-Pin-clause-serves : goal.returns-in-Pin-clause-serves
returns-in-Pin-clause-serves g c = λ path. rw c.in-Pin.is (c.pin.ensures _ _)

pub returns-in-Unpin-clause-serves : goal.returns-in-Unpin-clause-serves
returns-in-Unpin-clause-serves g c = λ path. rw c.in-Unpin.is (c.unpin.ensures _ _)

pub returns-in-Batch-clause-serves : goal.returns-in-Batch-clause-serves
returns-in-Batch-clause-serves g c = λ path. rw c.in-Batch.is (c.batch.ensures.serves _ refl)

pub returns-in-Put-clause-serves : goal.returns-in-Put-clause-serves
returns-in-Put-clause-serves g c = λ path. rw c.in-Put.is (c.put.ensures.serves path)

pub returns-in-Delete-clause-serves : goal.returns-in-Delete-clause-serves
returns-in-Delete-clause-serves g c = λ path. rw c.in-Delete.is (c.delete.ensures path _ _)
