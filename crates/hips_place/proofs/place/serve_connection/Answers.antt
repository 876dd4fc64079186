use Rattle.std.proofs.Common.{refl, sym, ◌∙◌}
use Rattle.hips_http.specs.Moment.{connection_of}
use Rattle.hips_place.proofs.place.serve_connection.Goals as goal

pub returns-clause-gives_back : goal.returns-clause-gives_back
returns-clause-gives_back g c =
    let told = connection_of g.D.In.Source g.D.Out.Sink in
    let input = c.into_inner in
    let output = c.into_inner-2 in
    let e = c.session_in-end.ensures in
    record {
      session = record {
        taken = record { source = g.D.In.Source.number c.args.connection.0; sink = g.D.Out.Sink.number c.args.connection.1; told = told c.args.connection.0 c.args.connection.1 };
        back = record { source = g.D.In.Source.number input.result; sink = g.D.Out.Sink.number output.result; told = told input.result output.result };
        served = c.session_in-end.result;
        own = e.goes.own;
      };
      taken_is = refl;
      end_is = refl;
      served = record {
        source = input.ensures.same ∙ sym c.requires.source;
        sink = output.ensures.same ∙ sym c.requires.sink;
        goes = e.goes;
        own_is = refl;
        served = rw (← c.new-input.ensures, ← c.new-output.ensures, input.ensures.inner, output.ensures.inner) e.served;
      };
      returned = λ i. record { connections = c.done.ensures.returned i; faults = c.done.ensures.faults i; memory_faults = c.done.ensures.memory_faults i };
    }
