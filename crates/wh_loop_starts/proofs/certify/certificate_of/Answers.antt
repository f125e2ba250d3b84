-- The certificate, put together.
use Rattle.std.proofs.Common.{map, sym, subst₂, ap, ◌∙◌}
use Rattle.wh_terms.specs.Erase.{tm}
use Rattle.wh_cert.specs.Written.{no}
use Rattle.wh_system.specs.SystemView.{system_data}
use Rattle.wh_no.specs.Entry.{entry_puts}
use Rattle.wh_loop_starts.specs.Found.{IsLoopCertificate}
use Rattle.wh_loop_starts.specs.Lines.{line_of}
use Rattle.wh_loop_starts.proofs.StartLemmas.{start_ready}
use Rattle.wh_loop_starts.proofs.CertLemmas.{loop_certificate}
use Rattle.wh_loop_starts.proofs.certify.certificate_of.Goals as goal

pub raw_term-requires : goal.raw_term-requires
raw_term-requires c = (start_ready (system_data c.args.system.now) (tm c.args.start.now) c.is_well_made.ensures c.requires.start).typed

pub returns : goal.returns
returns c = λ depth few shallow.
    let d = system_data c.args.system.now in
    let (last, replays, found) = c.requires.leads in
    let lines = c.in_ok-lines.ensures ∙ ap (λ es. map (line_of d) (entry_puts es)) c.deref.ensures.value in
    subst₂ (λ raw ls. IsLoopCertificate d depth (no raw c.args.steps c.args.instance.at ls)) (sym c.in_ok-term.ensures.tree) (sym lines)
    (loop_certificate d c.is_well_made.ensures (tm c.args.start.now) last c.args.steps c.args.instance.at (entry_puts c.args.instance.puts.items) c.requires.start c.requires.fits c.requires.some replays
    found.typed found.increasing found.for_variables found.holds depth few shallow)
