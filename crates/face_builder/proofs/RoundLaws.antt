-- The faces part the half-edges, and the next half-edge is a permutation, by the relations.
use Rattle.std.proofs.Common.{◌≡◌, ℕ, ◌≤◌, ◌<◌, true, inl, inr, List, [], ◌∷◌, refl, sym, subst, ◌∙◌, arith}
use Rattle.std.specs.Prelude.{Contains}
use Rattle.std.specs.List.{AllByRecursion}
use Rattle.std.proofs.lemmas.Option.{get_or_from_slice_get}
use Rattle.plane_geometry.specs.DirView.{dir_number}
use Rattle.std.specs.List.{list_all}
use Rattle.plane_geometry.specs.Polygon.{sides_of, has_direction}
use Rattle.crease_model.specs.Rules.{IsPattern}
use Rattle.crease_model.specs.Sheet.{is_sheet}
use Rattle.crease_model.specs.PartLaws.{sheet_turns}
use Rattle.crease_model.specs.View.{PatternView}
use Rattle.line_split.specs.MemberLaws.{Member, member, contained}
use Rattle.face_builder.specs.declared.half_edges.HalfEdge.{HalfEdge}
use Rattle.face_builder.specs.Faces.{faces_among, next_half_edge}
use Rattle.face_builder.specs.Fan.{interior_angle, next_place}
use Rattle.face_builder.specs.HalfEdge.{half_edges_of}
use Rattle.face_builder.specs.Round.{IsNext, IsClosedWalk, IsRoundOf, IsInOneFace, ArePartition, AreParted}
use Rattle.face_builder.proofs.Arrivals.{arrive_once}
use Rattle.face_builder.proofs.Cover.{covered, place_once}
use Rattle.face_builder.proofs.Departures.{kind_of, depart_once}
use Rattle.face_builder.proofs.Nexts.{GoesOn, member_of_place, place_of_member}
use Rattle.face_builder.proofs.Polygons.{goes_round}
use Rattle.face_builder.proofs.Rounds.{Follows, IsRound, rounds}
use Rattle.face_builder.proofs.Sides.{from_sorted, to_sorted, runs}

few_dir : (h : HalfEdge) → dir_number h.dir < 16
few_dir h = omega (arith, h.dir.in_range)

same_angle : (n a b : ℕ) → n < 16 → a < 16 → b < 16 → interior_angle n a ≤ interior_angle n b
    → interior_angle n b ≤ interior_angle n a → a ≡ b
same_angle n a b few_n few_a few_b e f = omega (arith, few_n, few_a, few_b, e, f)

goes_is_next : (hs : List HalfEdge) (h g : HalfEdge) → GoesOn hs h g → IsNext hs h g
goes_is_next hs h g k =
    record {
      half_edge = contained hs g (member_of_place hs _ g k.stands);
      joined = k.joined;
      nearest = λ e c at. k.nearest e (member hs e c) at;
    }

module _ (p : PatternView) (sheet : is_sheet p.corners ≡ true) (rules : IsPattern p) where
  abbrev hs : List HalfEdge
  hs = half_edges_of p

  directed : list_all has_direction (sides_of p.corners) ≡ true
  directed = (sheet_turns p.corners sheet).0

  goes : (h : HalfEdge) → Member hs h → (g : HalfEdge) × GoesOn hs h g
  goes = goes_round p directed

  -- the next half-edge is the one that the walk goes on to
  next_goes : (h g : HalfEdge) → Member hs h → IsNext hs h g → GoesOn hs h g
  next_goes h g m next =
      let k = goes h m in
      let in_hs = member hs g next.half_edge in
      let found = member_of_place hs _ k.0 k.1.stands in
      let dir : dir_number k.0.dir ≡ dir_number g.dir =
      same_angle (dir_number h.dir) (dir_number k.0.dir) (dir_number g.dir) (few_dir h) (few_dir k.0)
      (few_dir g)
      (k.1.nearest g in_hs next.joined) (next.nearest k.0 (contained hs k.0 found) k.1.joined) in
      let one : k.0 ≡ g =
      depart_once p sheet rules k.0 g (kind_of p sheet rules k.0 (from_sorted p directed k.0 found))
      (kind_of p sheet rules g (from_sorted p directed g in_hs))
      (runs p directed k.0 found) (runs p directed g in_hs) (k.1.joined ∙ sym next.joined) dir in
      subst (λ z. GoesOn hs h z) one k.1

  permutes : (g h e : HalfEdge) → Contains hs g → Contains hs h → IsNext hs g e → IsNext hs h e → g ≡ h
  permutes g h e c d x y =
      let m = member hs g c in
      let n = member hs h d in
      arrive_once p sheet rules hs (from_sorted p directed) (to_sorted p directed) (runs p directed) g h e m n
      (next_goes g e m x) (next_goes h e n y)

  closed_is : (first h : HalfEdge) (rest : List HalfEdge) → Follows hs goes first h rest
      → IsClosedWalk hs first h rest
  closed_is first h [] f = goes_is_next hs h first f
  closed_is first h (g ∷ gs) f = (goes_is_next hs h g f.0, closed_is first g gs f.1)

  round_is : (face : List HalfEdge) → IsRound hs goes face → IsRoundOf hs face
  round_is face r =
      (r.first, r.others, r.whole, contained hs r.first r.member, closed_is r.first r.first r.others r.closed)

  rounds_are : (faces : List (List HalfEdge))
      → ((face : List HalfEdge) → Member faces face → Member (faces_among hs) face)
      → AllByRecursion (IsRoundOf hs) faces
  rounds_are [] all = tt
  rounds_are (face ∷ faces) all =
      (round_is face (rounds hs goes face (all face (inl refl))), rounds_are faces (λ f m. all f (inr m)))

  in_one : (h : HalfEdge) → Contains hs h → IsInOneFace (faces_among hs) h
  in_one h c =
      let home = covered p sheet rules h (member hs h c) in
      let at = place_of_member (faces_among hs) home.0 home.1 in
      record {
        place = at.0;
        face = home.0;
        stands = at.1;
        has = contained home.0 h home.2;
        only = λ i other e d. place_once p sheet rules i at.0 other home.0 h e at.1 (member other h d) home.2;
      }

  partition : ArePartition hs (faces_among hs)
  partition =
      record { rounds = rounds_are (faces_among hs) (λ f m. m); once = in_one; permutation = permutes }

  next_is : (h : HalfEdge) → Contains hs h → IsNext hs h (next_half_edge hs h)
  next_is h c =
      let g = goes h (member hs h c) in
      let same : next_half_edge hs h ≡ g.0 = get_or_from_slice_get hs (next_place hs h) g.0 h g.1.stands in
      subst (λ x. IsNext hs h x) (sym same) (goes_is_next hs h g.0 g.1)

  pub parted : AreParted p
  parted = record { next = next_is; partition = partition }
