mod ChangeBeside
mod LaterBeside
mod RaiseBeside
