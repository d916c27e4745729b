-- A worker's desk.
use Rattle.page_tally.specs.Shapes.{Shape}
use Rattle.trap_pool.specs.declared.station.Station.{Station}

-- the shape of the pages that the desk is for
abbrev pub station_shape : Station → Shape
station_shape station = record {
  wide = station.wide;
  tall = station.tall;
  deep = station.deep;
  zones = station.zones;
}
