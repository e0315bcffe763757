-- Fans in a map are the half-edges that leave each vertex.
use Rattle.std.proofs.Common.{◌≡◌, ℕ, ◌+◌, Bool, true, false, cond, List, [], ◌∷◌, ◌++◌, Option, Some, refl, sym, ap, ◌∙◌, append_assoc}
use Rattle.std.specs.Option.{option_map_or}
use Rattle.std.specs.HashMap.{HashMap, get, Updates}
use Rattle.smallvec.specs.SmallVec.{SmallVec}
use Rattle.plane_geometry.specs.declared.Point.{Point}
use Rattle.plane_geometry.specs.Position.{position_of, is_same_position}
use Rattle.face_builder.specs.declared.half_edges.HalfEdge.{HalfEdge}
use Rattle.face_builder.specs.declared.fans.Exit.{Exit}
use Rattle.face_builder.specs.Fan.{exits_from}
use Rattle.face_builder.specs.FanMap.{exits_in, exits_after}
use Rattle.line_split.specs.Points.{equal_points}
use Rattle.line_split.specs.SortedLaws.{equal_is, equal_point}

module _ {S : Type 0} where
  pub after_insert : (fans new : HashMap Point (SmallVec Exit) S) (v : Point) (fan : SmallVec Exit)
      (exit : Exit)
      → Updates equal_points fans new v (Some fan) → fan.items ≡ exits_in v fans ++ exit ∷ []
      → (u : Point) → exits_in u new ≡ exits_after u fans v exit
  after_insert fans new v fan exit h e u =
      ap (λ (o : Option (SmallVec Exit)). option_map_or (λ f. f.items) o []) (h.0 u)
      ∙ by (equal_points v u) refl
    where
      by : (b : Bool) → equal_points v u ≡ b
          → option_map_or (λ f. f.items) (cond b (Some fan) (get equal_points fans u)) []
          ≡ cond b (exits_in u fans ++ exit ∷ []) (exits_in u fans)
      by true same = e ∙ ap (λ (w : Point). exits_in w fans ++ exit ∷ []) (equal_point v u same)
      by false other = refl

  -- the loop that fills the map
  pub fans_step : (fans new : HashMap Point (SmallVec Exit) S) (i : ℕ) (h : HalfEdge) (hs : List HalfEdge)
      → ((u : Point) → exits_in u new ≡ exits_after u fans h.start (record { place = i; dir = h.dir }))
      → (u : Point) → exits_in u new ++ exits_from (i + 1) u hs ≡ exits_in u fans ++ exits_from i u (h ∷ hs)
  fans_step fans new i h hs put u =
      ap (λ front. front ++ exits_from (i + 1) u hs) (put u)
      ∙ by (equal_points h.start u) (equal_is h.start u)
    where
      by : (b : Bool) → b ≡ is_same_position (position_of h.start) (position_of u)
          → cond b (exits_in u fans ++ record { place = i; dir = h.dir } ∷ []) (exits_in u fans)
          ++ exits_from (i + 1) u hs
          ≡ exits_in u fans ++ exits_from i u (h ∷ hs)
      by true e =
          append_assoc (exits_in u fans) (record { place = i; dir = h.dir } ∷ []) (exits_from (i + 1) u hs)
          ∙ ap (λ b. exits_in u fans
          ++ cond b (record { place = i; dir = h.dir } ∷ exits_from (i + 1) u hs) (exits_from (i + 1) u hs)) e
      by false e =
          ap (λ b. exits_in u fans
          ++ cond b (record { place = i; dir = h.dir } ∷ exits_from (i + 1) u hs) (exits_from (i + 1) u hs)) e
