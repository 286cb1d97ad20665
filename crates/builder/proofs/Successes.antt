-- The lists of a build that succeeds: they hold the tree, as a walk needs it, and what is left of the lent room stays. Assumes nothing.
use mathlib.Core.Path.{◌≡◌, refl, sym, ◌∙◌, ap, subst, subst⁻¹}
use Prim.Native.Nat.{ℕ, zero, suc, ◌+◌, ◌*◌, ◌/◌, ◌%◌, ◌≤◌, ◌<◌}
use native.Mathlib.Omega.{arith}
use native.Mathlib.Nat.{zero-add}
use mathlib.Core.Logic.{⊎_elim}
use mathlib.Core.Option.{Option, none, some}
use mathlib.Core.List.{List, [], ◌++◌}
use lib.ListN.{length, get_or, take, drop, length-append, length-drop}
use lib.Seq.{get_or-take, length-take-le, take_at, drop_at}
use lib.Dec.{T, eqb}
use lib.Ieee.{Float, nan, neg, le, eq, of_bits}
use borrow.Author.Tests.{eqb-true, ltb-false, not-false}
use Rattle.aabb.specs.Bounds.{bounded, empty_box, is_empty, usable}
use Rattle.aabb.specs.Vector.{all_at_most, all_equal, all_within, within}
use Rattle.std.specs.Prelude.{None}
use Rattle.triangle.specs.Mesh.{admitted_triangle, triangle_at, first_refused}
use Rattle.triangle.proofs.Admitting.{none_unadmitted, none_refused}
use Rattle.lent.specs.Permutation.{up_to}
use Rattle.lent.specs.Ladder.{none as unrefused, triangle_count}
use Rattle.lent.proofs.Ladder.{all_passed}
use Rattle.builder.specs.Reply.{Reply, served_reply, refused_reply}
use Rattle.builder.specs.Build.{Outcome, RestStays, built, finished, room}
use Rattle.builder.specs.Layout.{boxes_of, links_of}
use Rattle.builder.specs.Runs.{Runs}
use Rattle.builder.specs.Range.{box_from, node_box}
use Rattle.lent.specs.Limits.{deepest, most_triangles}
use Rattle.tree.specs.Lent.{Lists, lent, lists_of, mesh_of}
use Rattle.tree.specs.Tree.{Tree, below, leaves, size}
use Rattle.tree.specs.Holds.{Bare, Nested, Snug}
use Rattle.tree.specs.Accepted.{Accepted}
use Rattle.tree.proofs.Fitted.{fitted}
use Rattle.builder.specs.Tree.{Grown, grow}
use Rattle.builder.proofs.Enclosing.{Admitted}
use Rattle.builder.proofs.StartLoops.{room_is}
use Rattle.lent.proofs.Permutation.{occ_at, up_below, up_length}
use Rattle.builder.proofs.Placing.{Placed, boxes_length, held, links_length, child_of_one, root_of_none, placed, placed_same, same_numbers}
use Rattle.builder.proofs.RestKept.{boxes_rest, links_rest}
use Rattle.builder.proofs.Trees.{Fine, Of-some, grown_fine}
use Rattle.builder.proofs.Vertices.{Fitting, grown_fitting}
use Rattle.builder.proofs.InOrder.{inside, runs_held}

-- ---- what a success is
pub record Success (mesh : List Float) (index : List ℕ) (boxes : List Float) (links : List ℕ) (nodes leaf_count : ℕ) (o : Outcome) : Type 0 where
  pub whole : length mesh % 12 ≡ 0
  pub few : length mesh / 12 ≤ most_triangles
  pub index_room : length mesh / 12 ≤ length index
  pub box_room : room (length mesh / 12) ≤ length boxes / 6
  pub link_room : room (length mesh / 12) ≤ length links / 3
  pub all_admitted : first_refused mesh 0 (length mesh / 12) ≡ None
  pub grown : Grown
  pub grew : grow mesh deepest 0 (up_to (length mesh / 12)) ≡ some grown
  pub nodes_are : nodes ≡ 1 + below grown.tree
  pub leaves_are : leaf_count ≡ leaves grown.tree
  pub index_is : o.index ≡ grown.ids ++ drop (length mesh / 12) index
  pub boxes_are : o.boxes ≡ boxes_of grown.tree 0 1 boxes
  pub links_are : o.links ≡ links_of grown.tree 0 1 links

pub served_reply_lem : (a : Reply) → a.refusal ≡ unrefused → a ≡ served_reply a.nodes a.leaves
served_reply_lem a p i = record { refusal = p i; nodes = a.nodes; leaves = a.leaves }

no_refusal : {A : Type 0} (k a n l : ℕ) → refused_reply k a ≡ served_reply n l → A
no_refusal k a n l e = absurd (let r = ap (λ (w : Reply). w.refusal) e in let z : ◌≡◌ {A = ℕ} 0 1 = cc in omega arith)

module _ (mesh : List Float) (index : List ℕ) (boxes : List Float) (links : List ℕ) (nodes leaf_count : ℕ) (o : Outcome) (g : o.answer ≡ served_reply nodes leaf_count) where
  pub record Passed : Type 0 where
    pub whole : length mesh % 12 ≡ 0
    pub few : triangle_count mesh ≤ most_triangles
    pub index_room : triangle_count mesh ≤ length index
    pub box_room : room (triangle_count mesh) ≤ length boxes / 6
    pub link_room : room (triangle_count mesh) ≤ length links / 3
    pub all_admitted : first_refused mesh 0 (triangle_count mesh) ≡ None
    pub rest : finished (triangle_count mesh) (grow mesh deepest 0 (up_to (triangle_count mesh))) index boxes links ≡ o

  passed : built mesh index boxes links ≡ o → Passed
  unfolding built
  passed e =
      let p = all_passed _ _ _ o e (λ k a r. no_refusal k a nodes leaf_count (ap (λ (w : Outcome). w.answer) r ∙ g)) in
      let q = p.0 in
      record {
        whole = eqb-true (length mesh % 12) 0 (not-false (eqb (length mesh % 12) 0) q.0);
        few = ltb-false most_triangles (triangle_count mesh) q.1.0;
        index_room = ltb-false (length index) (triangle_count mesh) q.1.1.0;
        box_room = ltb-false (length boxes / 6) (room (triangle_count mesh)) q.1.1.1.0;
        link_room = ltb-false (length links / 3) (room (triangle_count mesh)) q.1.1.1.1.0;
        all_admitted = none_unadmitted (first_refused mesh 0 (triangle_count mesh)) q.1.1.1.1.1.0;
        rest = p.1;
      }

  grew_same : (a b c d : ℕ) → served_reply a b ≡ served_reply c d → (c ≡ a) × (d ≡ b)
  grew_same a b c d e = (ap (λ (w : Reply). w.nodes) (sym e), ap (λ (w : Reply). w.leaves) (sym e))

  done : Passed → (w : Option Grown) → grow mesh deepest 0 (up_to (triangle_count mesh)) ≡ w → finished (triangle_count mesh) w index boxes links ≡ o → Success mesh index boxes links nodes leaf_count o
  unfolding finished
  done p none s e = no_refusal 6 0 nodes leaf_count (ap (λ (w : Outcome). w.answer) e ∙ g)
  done p (some t) s e =
      let a = grew_same (1 + below t.tree) (leaves t.tree) nodes leaf_count (ap (λ (w : Outcome). w.answer) e ∙ g) in
      record {
        whole = p.whole;
        few = p.few;
        index_room = p.index_room;
        box_room = p.box_room;
        link_room = p.link_room;
        all_admitted = p.all_admitted;
        grown = t;
        grew = s;
        nodes_are = a.0;
        leaves_are = a.1;
        index_is = ap (λ (w : Outcome). w.index) (sym e);
        boxes_are = ap (λ (w : Outcome). w.boxes) (sym e);
        links_are = ap (λ (w : Outcome). w.links) (sym e);
      }

  pub success : built mesh index boxes links ≡ o → Success mesh index boxes links nodes leaf_count o
  success e = let p = passed e in done p (grow mesh deepest 0 (up_to (triangle_count mesh))) refl p.rest

-- ---- no numbers
up_none : up_to 0 ≡ []
unfolding up_to
up_none = refl

empty_usable : (m : List Float) → T (usable (node_box m []))
unfolding node_box box_from empty_box usable bounded is_empty all_equal all_within within all_at_most eq le neg of_bits
empty_usable m = tt

empty_box_lem : (m : List Float) → T (is_empty (node_box m []))
unfolding node_box box_from empty_box is_empty all_equal eq neg of_bits
empty_box_lem m = tt

-- ---- the lists of a success, without spare room, are accepted
module _ (mesh : List Float) (index : List ℕ) (boxes : List Float) (links : List ℕ) (nodes leaf_count : ℕ) (o : Outcome) (s : Success mesh index boxes links nodes leaf_count o) where
  abbrev t : Tree
  t = s.grown.tree

  abbrev ids : List ℕ
  ids = up_to (length mesh / 12)

  fine : Fine mesh deepest 0 ids s.grown
  fine = subst (Of-some (Fine mesh deepest 0 ids)) s.grew (grown_fine mesh deepest 0 ids)

  n_is : length ids ≡ length mesh / 12
  n_is = up_length (length mesh / 12)

  its_length : length s.grown.ids ≡ length mesh / 12
  its_length = fine.len ∙ n_is

  pub index_taken : take (length mesh / 12) o.index ≡ s.grown.ids
  index_taken = ap (λ (z : List ℕ). take (length mesh / 12) z) s.index_is ∙ take_at s.grown.ids (drop (length mesh / 12) index) (length mesh / 12) its_length

  small : 1 + below t ≤ room (length mesh / 12)
  small = let a = fine.room in let b = n_is in omega (arith, room_is (length mesh / 12))

  box_fit : (1 + below t) * 6 ≤ length boxes
  box_fit = let a = small in let b = s.box_room in omega arith

  link_fit : (1 + below t) * 3 ≤ length links
  link_fit = let a = small in let b = s.link_room in omega arith

  abbrev B : List Float
  B = boxes_of t 0 1 boxes

  abbrev L : List ℕ
  L = links_of t 0 1 links

  abbrev B' : List Float
  B' = take ((1 + below t) * 6) B

  abbrev L' : List ℕ
  L' = take ((1 + below t) * 3) L

  box_count : length B' ≡ (1 + below t) * 6
  box_count = let a = boxes_length t 0 1 boxes in let b = box_fit in length-take-le ((1 + below t) * 6) B (omega arith)

  link_count : length L' ≡ (1 + below t) * 3
  link_count = let a = links_length t 0 1 links in let b = link_fit in length-take-le ((1 + below t) * 3) L (omega arith)

  stands : Placed B' L' 0 1 t
  stands = placed_same t 0 1 B B' L L' (λ j w. let h : j < 1 + below t = ⊎_elim (λ e. omega arith) (λ q. q.1) w in
      same_numbers B B' L L' j (λ k x y. get_or-take ((1 + below t) * 6) B k nan (omega arith)) (λ k x y. get_or-take ((1 + below t) * 3) L k 0 (omega arith)))
      (placed t 0 1 boxes links (omega arith) box_fit link_fit)

  admits : (k : ℕ) → k < length mesh / 12 → T (admitted_triangle (triangle_at mesh k))
  admits k h = none_refused mesh (length mesh / 12) 0 k s.all_admitted (omega arith) (omega arith)

  all_admits : Admitted mesh ids
  all_admits v h = admits v (up_below (length mesh / 12) v h)

  is_nested : (k : ℕ) → length mesh / 12 ≡ k → Nested t
  is_nested zero e =
      let z : length ids ≡ 0 = n_is ∙ e in
      let none : ids ≡ [] = ap up_to e ∙ up_none in
      subst⁻¹ Nested (fine.none z) (subst⁻¹ (λ (l : List ℕ). T (usable (node_box mesh l))) none (empty_usable mesh))
  is_nested (suc k) e = let a = n_is in fine.nested (omega arith) all_admits

  its_entries : (p : ℕ) → p < length s.grown.ids → get_or s.grown.ids p 0 < length mesh / 12
  its_entries p h = up_below (length mesh / 12) (get_or s.grown.ids p 0) (omega (arith, occ_at s.grown.ids p h, fine.same (get_or s.grown.ids p 0)))

  its_runs : Runs 0 (length s.grown.ids) t
  its_runs = subst⁻¹ (λ (k : ℕ). Runs 0 k t) (fine.len ∙ sym (zero-add (length ids))) fine.runs

  -- no triangles: one leaf of none, with the empty box
  is_bare : length mesh / 12 ≡ 0 → Bare t
  is_bare e =
      let z : length ids ≡ 0 = n_is ∙ e in
      let none : ids ≡ [] = ap up_to e ∙ up_none in
      subst⁻¹ Bare (fine.none z) ((subst⁻¹ (λ (l : List ℕ). T (is_empty (node_box mesh l))) none (empty_box_lem mesh), refl, z))

  is_snug : Snug mesh s.grown.ids t
  is_snug =
      let w = subst (Of-some (Fitting mesh deepest 0 ids)) s.grew (grown_fitting mesh deepest 0 ids) in
      w.snug s.grown.ids (λ i h. ap (λ (z : ℕ). get_or s.grown.ids z 0) (zero-add i)) all_admits

  all_nodes : length L' / 3 ≡ size t
  all_nodes = omega (arith, link_count)

  its_lists : (materials : List ℕ) → Accepted (lent mesh materials s.grown.ids B' L') t
  its_lists materials =
      let a = link_count in
      let b = box_count in
      let c = small in
      let n = n_is in
      record {
        walkable = record {
          whole = s.whole;
          few = s.few;
          fitted = fitted B' L' (omega arith) (omega arith) (let f = s.few in omega (arith, room_is (length mesh / 12))) (omega arith);
          one_each = its_length;
          entries = its_entries;
          admitted = admits;
          holds = held s.grown.ids B' L' t 0 1 0 (length s.grown.ids) stands its_runs (omega arith) (omega arith);
          sized = omega arith;
          shallow = fine.shallow;
          nested = is_nested (length mesh / 12) refl;
          covers = omega (arith, runs_held 0 (length s.grown.ids) t its_runs);
        };
        finite = λ h. fine.finite (omega arith) all_admits;
        occupied = λ h. fine.occupied (omega arith);
        bare = is_bare;
        once = child_of_one s.grown.ids B' L' t stands all_nodes;
        root = root_of_none s.grown.ids B' L' t stands all_nodes;
        all_nodes = all_nodes;
        apart = λ q h. inside q 0 (length s.grown.ids) t its_runs (omega arith) h;
        permuted = fine.same;
        snug = is_snug;
      }

  taken_boxes : take (nodes * 6) o.boxes ≡ B'
  taken_boxes = ap (λ (k : ℕ). take (k * 6) o.boxes) s.nodes_are ∙ ap (λ (z : List Float). take ((1 + below t) * 6) z) s.boxes_are

  taken_links : take (nodes * 3) o.links ≡ L'
  taken_links = ap (λ (k : ℕ). take (k * 3) o.links) s.nodes_are ∙ ap (λ (z : List ℕ). take ((1 + below t) * 3) z) s.links_are

  given_is : lists_of (take (length mesh / 12) o.index) (take (nodes * 6) o.boxes) (take (nodes * 3) o.links) ≡ lists_of s.grown.ids B' L'
  given_is = rw (index_taken, taken_boxes, taken_links)

  -- what is handed over: the first n entries and the first 2L-1 nodes; whatever the materials are
  pub accepted : (materials : List ℕ) → Accepted (lent mesh materials (take (length mesh / 12) o.index) (take (nodes * 6) o.boxes) (take (nodes * 3) o.links)) t
  accepted materials = subst⁻¹ (λ (l : Lists). Accepted (record { mesh = mesh_of mesh materials; tree = l }) t) given_is (its_lists materials)

  -- and leaf ranges are in order
  pub in_order : Runs 0 (length (take (length mesh / 12) o.index)) t
  in_order = subst⁻¹ (λ (l : List ℕ). Runs 0 (length l) t) index_taken its_runs

  -- the rest of the lent room stays
  index_stays : drop (length mesh / 12) o.index ≡ drop (length mesh / 12) index
  index_stays = ap (λ (z : List ℕ). drop (length mesh / 12) z) s.index_is ∙ drop_at s.grown.ids (drop (length mesh / 12) index) (length mesh / 12) its_length

  boxes_stay : drop (nodes * 6) o.boxes ≡ drop (nodes * 6) boxes
  boxes_stay = ap (λ (z : List Float). drop (nodes * 6) z) s.boxes_are ∙ boxes_rest (nodes * 6) t 0 1 boxes (omega arith) (let e = s.nodes_are in omega arith)

  links_stay : drop (nodes * 3) o.links ≡ drop (nodes * 3) links
  links_stay = ap (λ (z : List ℕ). drop (nodes * 3) z) s.links_are ∙ links_rest (nodes * 3) t 0 1 links (omega arith) (let e = s.nodes_are in omega arith)

  index_long : length o.index ≡ length index
  index_long = ap length s.index_is ∙ length-append s.grown.ids (drop (length mesh / 12) index) ∙ omega (arith, its_length, length-drop (length mesh / 12) index, s.index_room)

  all_stays : o.answer.nodes ≡ nodes → RestStays mesh index boxes links o
  all_stays e = record {
    index_long = index_long;
    boxes_long = ap length s.boxes_are ∙ boxes_length t 0 1 boxes;
    links_long = ap length s.links_are ∙ links_length t 0 1 links;
    index_stays = index_stays;
    boxes_stay = rw e boxes_stay;
    links_stay = rw e links_stay;
  }

-- The rest stays: of every build that is served
pub rest_stays : (mesh : List Float) (index : List ℕ) (boxes : List Float) (links : List ℕ) → (built mesh index boxes links).answer.refusal ≡ unrefused → RestStays mesh index boxes links (built mesh index boxes links)
rest_stays mesh index boxes links e =
    let o = built mesh index boxes links in
    all_stays mesh index boxes links o.answer.nodes o.answer.leaves o (success mesh index boxes links o.answer.nodes o.answer.leaves o (served_reply_lem o.answer e) refl) refl
