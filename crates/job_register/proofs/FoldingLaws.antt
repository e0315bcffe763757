-- Each job of a legal record shows the layer orders of the version that it names.
use Rattle.std.proofs.Common.{◌≡◌, ℕ, List, [], ◌∷◌, ◌++◌, Some, refl, sym, ap, subst, ◌∙◌}
use Rattle.std.proofs.lemmas.List.{append-nil}
use Rattle.crease_model.specs.View.{PatternView}
use Rattle.undo_journal.specs.Versions.{JournalView, pattern_at}
use Rattle.order_search.specs.Lists.{orders}
use Rattle.order_search.specs.OrderedLists.{AreInOrder, OrdersAreInOrder}
use Rattle.job_enumeration.specs.Closings.{closings, closings_from}
use Rattle.job_enumeration.specs.Enumeration.{IsEnumeration}
use Rattle.fold_jobs.specs.Limits.{first_budget}
use Rattle.fold_jobs.specs.Machine.{no_jobs}
use Rattle.fold_jobs.specs.Record.{JobsEvent, Open}
use Rattle.fold_jobs.specs.OwnEvents.{own_events, own_events_from, ShownOrder}
use Rattle.fold_jobs.specs.Laws.{AreShown, ShowsOrders, LegalRecordsEnumerate as JobsEnumerate}
use Rattle.layer_rules.specs.LayerOrder.{IsLayerOrder}
use Rattle.layer_rules.specs.Layering.{LayeringView, kinds_of}
use Rattle.script_lang.specs.declared.command.Command.TheVariants.{Fold}
use Rattle.script_lang.specs.declared.reply.Reply.TheVariants as reply
use Rattle.job_register.specs.declared.session.Event.{Event}
use Rattle.job_register.specs.declared.session.Event.TheVariants.{Made}
use Rattle.job_register.specs.Edits.{current_pattern_of}
use Rattle.job_register.specs.Machine.{State, first_state, IsJobOn}
use Rattle.job_register.specs.Layers.{IsLayersOf}
use Rattle.job_register.specs.Legal.{Lead, IsLegal, journal_after}
use Rattle.job_register.specs.RecordVersions.{version_in}
use Rattle.job_register.specs.FoldingRecords.{closings_in, closings_past, ShowsLayerOrders, LegalRecordsEnumerate}
use Rattle.job_register.proofs.Records.{lead_split, lead_journal}
use Rattle.job_register.proofs.Versions.{versions_stay, current_there}
use Rattle.job_register.proofs.JobRecords.{Tells, tells_both, tells_opened, told_lead}

-- the orders of the rules of layers are the layer orders
layer_orders : OrdersAreInOrder → (p : PatternView) (l : LayeringView) → IsLayersOf p l
    → AreInOrder (IsLayerOrder l.shape (kinds_of p.pieces) l.pairs) (orders l.rules)
layer_orders law p l layers =
    let all = law l.rules in
    record {
      members = λ signs. (
        λ inside. let is = (all.members signs).0 inside in
            record { whole = is.0 ∙ layers.layering.count; consistent = (layers.meaning signs).0 is.1 },
        λ order. (all.members signs).1
            (order.whole ∙ sym layers.layering.count, (layers.meaning signs).1 order.consistent),
      );
      ascend = all.ascend;
    }

-- what the whole record tells of its jobs, cut where one was opened
record IsOpenedIn (most : ℕ) (es before after : List Event) (number version : ℕ) : Type 0 where
  state : State
  lead : Lead (first_state most) before state
  last : State
  layers : LayeringView
  version_is : version ≡ state.journal.current
  layers_are : IsLayersOf (current_pattern_of state.journal) layers
  front : List JobsEvent
  back : List JobsEvent
  tells : Tells (no_jobs most) last.jobs es (front ++ Open number version layers.rules ∷ back)

opened_in_record : (most : ℕ) (es before after : List Event) (number version faces pairs : ℕ)
    → IsLegal most es → es ≡ before ++ Made Fold (reply.Job number version faces pairs) ∷ after
    → IsOpenedIn most es before after number version
opened_in_record most es before after number version faces pairs legal cut =
    let e : Event = Made Fold (reply.Job number version faces pairs) in
    let whole : Lead (first_state most) (before ++ e ∷ after) legal.state =
    subst (λ fs. Lead (first_state most) fs legal.state) cut legal.leads in
    let parts = lead_split (first_state most) legal.state before (e ∷ after) whole in
    let s : State = parts.0 in
    let n : State = parts.2.0 in
    let job : IsJobOn s number version faces pairs n = parts.2.1.2 in
    let front = told_lead (first_state most) s before parts.1 in
    let back = told_lead n legal.state after parts.2.2 in
    let opens : Tells s.jobs n.jobs (e ∷ []) (Open number version job.layers.rules ∷ []) =
    subst (λ (u : State). Tells s.jobs u.jobs (e ∷ []) (Open number version job.layers.rules ∷ []))
    (sym job.opens)
    (tells_opened s.jobs Fold number version faces pairs job.layers.rules job.number_is job.room) in
    let later : Tells s.jobs legal.state.jobs (e ∷ after) (Open number version job.layers.rules ∷ back.0) =
    tells_both s.jobs n.jobs legal.state.jobs (e ∷ []) after (Open number version job.layers.rules ∷ []) back.0
    opens back.1 in
    let all = tells_both (no_jobs most) s.jobs legal.state.jobs before (e ∷ after) front.0
    (Open number version job.layers.rules ∷ back.0) front.1 later in
    record {
      state = s;
      lead = parts.1;
      last = legal.state;
      layers = job.layers;
      version_is = job.version_is;
      layers_are = job.layers_are;
      front = front.0;
      back = back.0;
      tells = subst (λ fs. Tells (no_jobs most) legal.state.jobs fs
          (front.0 ++ Open number version job.layers.rules ∷ back.0)) (sym cut) all;
    }

-- the closings of the whole record are those of the job's own events
told_closings : (most n : ℕ) (t : State) (es : List Event) (js : List JobsEvent)
    → Tells (no_jobs most) t.jobs es js → closings_in n es ≡ closings (own_events n js)
told_closings most n t es js tells =
    ap (closings_past n first_budget 0) (sym (append-nil es))
    ∙ tells.closes n 0 [] [] (λ next. refl)
    ∙ ap (λ ks. closings_from 0 (own_events_from n first_budget ks)) (append-nil js)

-- the version that was current keeps its pattern to the end of the record
version_is_there : (most : ℕ) (es before rest : List Event) (s : State) → Lead (first_state most) before s
    → es ≡ before ++ rest → version_in es s.journal.current ≡ Some (current_pattern_of s.journal)
version_is_there most es before rest s lead cut =
    let here : s.journal ≡ journal_after before = lead_journal (first_state most) s before lead in
    let there : version_in before s.journal.current ≡ Some (current_pattern_of s.journal) =
    ap (λ (j : JournalView). pattern_at j s.journal.current) (sym here) ∙ current_there before s.journal here in
    ap (λ fs. version_in fs s.journal.current) cut
    ∙ versions_stay before rest s.journal.current (current_pattern_of s.journal) there

shows_orders : JobsEnumerate → OrdersAreInOrder → (most : ℕ) (es : List Event) → IsLegal most es
    → (before after : List Event) (number version faces pairs : ℕ)
    → es ≡ before ++ Made Fold (reply.Job number version faces pairs) ∷ after
    → ShowsLayerOrders most number version es
shows_orders law all most es legal before after number version faces pairs cut =
    let o = opened_in_record most es before after number version faces pairs legal cut in
    let e : Event = Made Fold (reply.Job number version faces pairs) in
    let pattern = current_pattern_of o.state.journal in
    let js = o.front ++ Open number version o.layers.rules ∷ o.back in
    let shows : ShowsOrders most number version o.layers.rules js =
    law most number version o.layers.rules js o.front o.back o.tells.legal refl in
    record {
      pattern = pattern;
      pattern_is = ap (version_in es) o.version_is
          ∙ version_is_there most es before (e ∷ after) o.state o.lead cut;
      layers = o.layers;
      layers_are = o.layers_are;
      orders_are = layer_orders all pattern o.layers o.layers_are;
      shown = subst (λ (list : List ShownOrder). AreShown version o.layers.rules list)
          (sym (o.tells.shown number)) shows.shown;
      enumeration = subst (λ cs. IsEnumeration o.layers.rules most cs)
          (sym (told_closings most number o.last es js o.tells)) shows.enumeration;
    }

pub records_enumerate : JobsEnumerate → OrdersAreInOrder → LegalRecordsEnumerate
records_enumerate law all most es legal = record {
  of_each = λ before after number version faces pairs cut.
      shows_orders law all most es legal before after number version faces pairs cut;
}
