-- The extended sides of a well-made rule, and instances of the rule with arguments behind them.
use Rattle.std.proofs.Common.{◌≡◌, ℕ, suc, ◌+◌, ◌-◌, ◌<◌, ◌⊎◌, inl, inr, cond, List, [], ◌∷◌, length, map, refl, ap, ap₂, ◌∙◌, sym, subst, Some, slice_get, arith}
use Rattle.std.specs.Prelude.{get_or, nat_lt}
use Rattle.std.proofs.lemmas.Option.{slice_get_within}
use Rattle.std.proofs.lemmas.Bool.{lt-ltb, le-ltb}
use Rattle.wh_types.specs.Ty.{Ty, sort, arguments, result_sort, SortsBelow}
use Rattle.wh_terms.specs.Tree.{Tm, bound, tms_of, spine}
use Rattle.wh_terms.specs.Sight.{Occurs, OccursIn}
use Rattle.wh_terms.specs.Pattern.{IsPatternSpine}
use Rattle.wh_terms.specs.Typing.{Symbols, Declared, Typed}
use Rattle.wh_terms.specs.Rules.{RewriteRule, IsWellMade}
use Rattle.wh_terms.specs.Value.{Body, parameters}
use Rattle.wh_terms.specs.TypedBodies.{parameter_types, TypedBodies}
use Rattle.wh_terms.specs.StepOver.{StepOver, over_root}
use Rattle.wh_terms.proofs.ActLaws.{act-id}
use Rattle.wh_terms.proofs.TypingLaws.{typed_anywhere}
use Rattle.wh_terms.proofs.ValueForm.{value, value_agree, FitsBodies}
use Rattle.wh_terms.proofs.ValueTyping.{spine_bodies, headed_spine}
use Rattle.wh_step_laws.specs.RootRelations.{KnowsSorts}
use Rattle.wh_step_laws.proofs.Candidates.{head-spine}
use Rattle.wh_order_extended.specs.Many.{Many, go}
use Rattle.wh_order_extended.specs.Kinds.{kind, arrows, KnowsMetas, AreCounted}
use Rattle.wh_order_extended.specs.Long.{expand, core, long}
use Rattle.wh_order_extended.specs.ExtendedSides.{missing, added, added_from, extended_metas, extended_side}
use Rattle.wh_order_extended.specs.Filtered.{Full}
use Rattle.wh_order_extended.proofs.ManyLaws.{many_both, many_equal}
use Rattle.wh_order_extended.proofs.TypeLists.{arrows-arguments, typed_spine, typed_spine-arguments, typed_length}
use Rattle.wh_order_extended.proofs.Acted.{typed_fits}
use Rattle.wh_order_extended.proofs.LongLaws.{kind_is}
use Rattle.wh_order_extended.proofs.LongTyped.{type_known, long_typed, long_occurs, occurs_long}
use Rattle.wh_order_extended.proofs.LongFree.{no_free_long, long_anywhere}
use Rattle.wh_order_extended.proofs.LongPatterns.{core_pattern, spine_pattern}
use Rattle.wh_order_extended.proofs.StepLong.{finish-headed}
use Rattle.wh_order_extended.proofs.Sides.{args_at, args_is, params, params_is, longed, value_long}
use Rattle.wh_order_extended.proofs.Patterns.{pattern_long}
use Rattle.wh_order_extended.proofs.Fullness.{full_long}
use Rattle.wh_order_extended.proofs.SiftValues.{value-spine}
use Rattle.wh_order_extended.proofs.ExtendedRules.{Wide, Extended, extended_renamed}
use Rattle.wh_order_extended.proofs.MoreMetas.{get_front, typed_wider, added_typed, knows_more, pattern_added, closed_added, occurs_spine, spine_occurs, fitted}

-- bodies for the meta-variables of a rule, and behind them the arguments
with_arguments : List Declared → ℕ → (ℕ → Body) → List Tm → ℕ → Body
with_arguments L n g ws z = record { arity = length (args_at L z); tree = cond (nat_lt z n) (g z).tree (get_or ws (z - n) (bound 0)) }

with_counted : (L : List Declared) (n : ℕ) (g : ℕ → Body) (ws : List Tm) → AreCounted L (with_arguments L n g ws)
unfolding with_arguments
with_counted L n g ws z d e = ap length (args_is L z d e)

with_behind : (L : List Declared) (n : ℕ) (g : ℕ → Body) (ws : List Tm) (i : ℕ) → (with_arguments L n g ws (n + i)).tree ≡ get_or ws i (bound 0)
unfolding with_arguments
with_behind L n g ws i =
    ap (λ b. cond b (g (n + i)).tree (get_or ws (n + i - n) (bound 0))) (le-ltb (n + i) n (omega arith))
    ∙ ap (λ j. get_or ws j (bound 0)) (omega arith)

with_front : (L : List Declared) (n : ℕ) (g : ℕ → Body) (ws : List Tm) (z : ℕ) → z < n → (g z).arity ≡ length (args_at L z) → g z ≡ with_arguments L n g ws z
unfolding with_arguments
with_front L n g ws z l e = ap₂ put e (sym (ap (λ b. cond b (g z).tree (get_or ws (z - n) (bound 0))) (lt-ltb z n l)))
  where
    put : ℕ → Tm → Body
    put m t = record { arity = m; tree = t }

-- the values of added meta-variables
added_values : (g : ℕ → Body) (cs : List Ty) (ws : List Tm) (n : ℕ) → length ws ≡ length cs → ((i : ℕ) → (g (n + i)).tree ≡ get_or ws i (bound 0)) → map (value g) (added_from n cs) ≡ ws
unfolding value parameters
added_values g [] [] n l h = refl
added_values g [] (w ∷ ws) n l h = absurd (omega (arith, l))
added_values g (c ∷ cs) [] n l h = absurd (omega (arith, l))
added_values g (c ∷ cs) (w ∷ ws) n l h =
    ap₂ (λ t ts. t ∷ ts) (act-id (g n).tree ∙ ap (λ z. (g z).tree) (omega arith) ∙ h 0)
    (added_values g cs ws (suc n) (omega (arith, l)) (λ i. ap (λ z. (g z).tree) (omega arith) ∙ h (suc i)))

module _ (S : Symbols) (known : KnowsSorts S) (r : RewriteRule) (w : IsWellMade S r) (metas : KnowsMetas S r.metas) where
  -- the types and the trees of the arguments that are added
  abbrev cs : List Ty
  cs = missing S r

  abbrev zs : List Tm
  zs = added_from (length r.metas) (missing S r)

  abbrev L : List Declared
  L = extended_metas S r

  abbrev result : ℕ
  result = result_sort w.typed.0

  no_types : (i : ℕ) (b : Ty) → slice_get [] i ≡ Some b → SortsBelow S.sorts b
  no_types i b e = absurd (cc)

  whole_type : w.typed.0 ≡ arrows cs (sort result)
  whole_type = arrows-arguments w.typed.0 ∙ ap (λ a. arrows (arguments a) (sort result)) (sym (kind_is w.typed.1))

  pub metas_known : KnowsMetas S L
  metas_known = knows_more S r.metas cs (sort result) metas (subst (SortsBelow S.sorts) whole_type (type_known S r.metas known metas no_types w.typed.1))

  -- a side with all its arguments
  pub side_typed : (t : Tm) → Typed S r.metas [] t w.typed.0 → Typed S L [] (spine t zs) (sort result)
  side_typed t p = typed_spine t zs cs (subst (Typed S L [] t) whole_type (typed_wider (added cs) p)) (added_typed S r.metas cs)

  pub extended_typed : (t : Tm) → Typed S r.metas [] t w.typed.0 → Typed S L [] (extended_side S r t) (sort result)
  extended_typed t p = long_typed S L known metas_known no_types (side_typed t p)

  pub left_spine : IsPatternSpine 0 (spine r.left zs)
  left_spine = pattern_added r.left (length r.metas) cs (headed_spine 0 w.headed.0 r.left w.pattern_left w.headed.1)

  pub left_core : extended_side S r r.left ≡ core S L [] (spine r.left zs)
  unfolding expand
  left_core =
      finish-headed w.headed.0 (spine r.left zs) (kind S L [] (spine r.left zs)) (core S L [] (spine r.left zs)) (head-spine r.left zs ∙ w.headed.1)
      ∙ ap (λ k. expand k (core S L [] (spine r.left zs))) (kind_is (side_typed r.left w.typed.1))

  -- what occurs on the right with its arguments occurs on the left with these
  pub known_spine : (z : ℕ) → Occurs z (spine r.right zs) → Occurs z (spine r.left zs)
  known_spine z o = on (occurs_spine z r.right zs o)
    where
      on : Occurs z r.right ⊎ OccursIn z (tms_of zs) → Occurs z (spine r.left zs)
      on (inl p) = spine_occurs z r.left zs (inl (w.known z p))
      on (inr p) = spine_occurs z r.left zs (inr p)

  -- the rule with extended sides
  unfoldable pub wide : Wide S
  wide = record {
    metas = L;
    left = extended_side S r r.left;
    right = extended_side S r r.right;
    result = result;
    left_typed = extended_typed r.left w.typed.1;
    right_typed = extended_typed r.right w.typed.2;
    left_pattern = subst (IsPatternSpine 0) (sym left_core) (core_pattern S L 0 [] (spine r.left zs) left_spine);
    left_closed = no_free_long S L [] (spine r.left zs) (closed_added r.left (length r.metas) cs w.left_closed);
    right_closed = no_free_long S L [] (spine r.right zs) (closed_added r.right (length r.metas) cs w.right_closed);
    known = λ z o. occurs_long S L z [] (spine r.left zs) (known_spine z (long_occurs S L z [] (spine r.right zs) o));
    left_full = full_long S (side_typed r.left w.typed.1);
    right_full = full_long S (side_typed r.right w.typed.2);
  }

  module _ (g : ℕ → Body) (ws : List Tm) (fits : FitsBodies g r.left) where
    abbrev h : ℕ → Body
    h = with_arguments L (length r.metas) g ws

    front_same : (z : ℕ) → Occurs z r.left → g z ≡ h z
    front_same z o =
        let f = fitted g z w.typed.1 fits o in
        with_front L (length r.metas) g ws z (slice_get_within r.metas z f.declared f.at)
        (f.counted ∙ ap length (sym (args_is L z f.declared (get_front r.metas (added cs) z f.declared f.at))))

    -- a side's value with the arguments behind it
    spine_value : (t : Tm) → ((z : ℕ) → Occurs z t → Occurs z r.left) → length ws ≡ length cs → value h (spine t zs) ≡ spine (value g t) ws
    spine_value t o l =
        value-spine h t zs
        ∙ ap₂ spine (sym (value_agree g h t (λ z p. front_same z (o z p)))) (added_values h cs ws (length r.metas) l (with_behind L (length r.metas) g ws))

    module _ (Γ : List Ty) (s : ℕ) (p : Typed S [] Γ (spine (value g r.left) ws) (sort s)) where
      arguments_count : length ws ≡ length cs
      arguments_count =
          let (ds, q, qs) = typed_spine-arguments (value g r.left) ws p in
          let (same, bodies) = spine_bodies 0 g r.left (headed_spine 0 w.headed.0 r.left w.pattern_left w.headed.1) fits (typed_anywhere Γ w.typed.1) q in
          typed_length ws ds qs ∙ ap length (one cs ds (sym whole_type ∙ same))
        where
          no_more : (l : List Ty) (b : ℕ) → arguments (arrows l (sort b)) ≡ l
          no_more [] b = refl
          no_more (c ∷ l) b = ap (λ m. c ∷ m) (no_more l b)

          one : (l m : List Ty) → arrows l (sort result) ≡ arrows m (sort s) → m ≡ l
          one l m e = sym (no_more m s) ∙ ap arguments (sym e) ∙ no_more l result

      left_is : value h (spine r.left zs) ≡ spine (value g r.left) ws
      left_is = spine_value r.left (λ z o. o) arguments_count

      right_is : value h (spine r.right zs) ≡ spine (value g r.right) ws
      right_is = spine_value r.right w.known arguments_count

      left_typed : Typed S L Γ (spine r.left zs) (sort result)
      left_typed = typed_anywhere Γ (side_typed r.left w.typed.1)

      right_typed : Typed S L Γ (spine r.right zs) (sort result)
      right_typed = typed_anywhere Γ (side_typed r.right w.typed.2)

      left_fits : FitsBodies h (spine r.left zs)
      left_fits = typed_fits h (with_counted L (length r.metas) g ws) (side_typed r.left w.typed.1)

      right_fits : FitsBodies h (spine r.right zs)
      right_fits = typed_fits h (with_counted L (length r.metas) g ws) (side_typed r.right w.typed.2)

      left_bodies : TypedBodies S L [] Γ h (spine r.left zs)
      left_bodies = (spine_bodies 0 h (spine r.left zs) left_spine left_fits left_typed (subst (λ v. Typed S [] Γ v (sort s)) (sym left_is) p)).1

      -- the bodies, extended, are full
      longed_full : (z : ℕ) → Occurs z (extended_side S r r.left) → Full S 0 (longed S L Γ h z).tree
      unfolding longed
      longed_full z o =
          let o' = long_occurs S L z [] (spine r.left zs) o in
          let f = fitted h z (side_typed r.left w.typed.1) left_fits o' in
          let fit = left_bodies z f.declared o' f.at in
          let scope : params (h z).arity (args_at L z) Γ ≡ parameter_types f.declared.args Γ = ap₂ (λ n cs. params n cs Γ) fit.counted (args_is L z f.declared f.at) ∙ params_is f.declared.args Γ in
          full_long S (subst (λ Δ. Typed S [] Δ (h z).tree f.declared.out) (sym scope) fit.typed)

      module _ (P : Wide S → Type 0) (listed : P wide) where
        -- the extended instance of the left side is an instance of the extended left side
        instance_left : long S [] Γ (spine (value g r.left) ws) ≡ value (longed S L Γ h) (extended_side S r r.left)
        instance_left =
            ap (long S [] Γ) (sym left_is)
            ∙ sym (pattern_long S L 0 h (spine r.left zs) (spine_pattern 0 (spine r.left zs) left_spine) left_typed left_bodies left_fits)
            ∙ ap (value (longed S L Γ h)) (long_anywhere S L known metas_known Γ (spine r.left zs) (sort result) (side_typed r.left w.typed.1))

        longed_counted : AreCounted L (longed S L Γ h)
        unfolding longed
        longed_counted z d e = with_counted L (length r.metas) g ws z d e

        -- and that of the right side is reached from the instance of the extended right side
        pub instance_steps : Many (StepOver (Extended S P)) (long S [] Γ (spine (value g r.left) ws)) (long S [] Γ (spine (value g r.right) ws))
        unfolding wide
        instance_steps =
            go (over_root (record {
              rule = wide;
              listed = listed;
              bodies = longed S L Γ h;
              counted = longed_counted;
              full = longed_full;
              is_left = instance_left;
              is_right = refl;
            }))
            (many_both (many_equal (ap (value (longed S L Γ h)) (sym (long_anywhere S L known metas_known Γ (spine r.right zs) (sort result) (side_typed r.right w.typed.2)))))
            (many_both (value_long S L (Extended S P) (extended_renamed S P) h right_typed (λ z d o e. left_bodies z d (known_spine z o) e) right_fits)
            (many_equal (ap (long S [] Γ) right_is))))
