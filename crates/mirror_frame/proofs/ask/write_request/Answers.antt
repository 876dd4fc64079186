use Rattle.mirror_frame.proofs.ask.write_request.Goals as goal

pub returns-in-Pin-clause-part : goal.returns-in-Pin-clause-part
returns-in-Pin-clause-part g c = rw c.in-Pin.is c.write_whole.ensures.part

pub returns-in-Unpin-clause-part : goal.returns-in-Unpin-clause-part
returns-in-Unpin-clause-part g c = rw c.in-Unpin.is c.write_whole-in-Unpin.ensures.part
