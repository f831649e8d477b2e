use Rattle.std.proofs.Common.{◌≡◌, [], sym, unwrap_or, rules}
use Rattle.http.specs.Request.{head_of}
use Rattle.http_uri.specs.Uri.{uri_path, uri_query}
use Rattle.lb_doh_server.proofs.heads.read_head_of.Goals as goal

pub returns : goal.returns
returns g c =
    let method : c.as_str.result.now ≡ (head_of c.args.request.now).method = search rules in
    let path : c.path.result.now ≡ uri_path (head_of c.args.request.now).uri = search rules in
    let query : c.unwrap_or.result.now ≡ unwrap_or (uri_query (head_of c.args.request.now).uri) [] = search rules in
    (c.media_of.result.now, c.media_of.ensures, rw (sym method, sym path, sym query) c.read_head.ensures)
